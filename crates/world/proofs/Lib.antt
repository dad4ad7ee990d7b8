pub mod Calls
pub mod Epochs
pub mod Mounts
pub mod States
pub mod Exits
