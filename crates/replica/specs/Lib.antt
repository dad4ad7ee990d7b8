pub mod Logging
pub mod Open
pub mod Reading
pub mod Step
