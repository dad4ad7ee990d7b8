pub mod Areas
pub mod Bytes
pub mod Images
pub mod Keeping
pub mod Steps
