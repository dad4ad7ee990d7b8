pub mod Blocks
pub mod Errors
pub mod Log
