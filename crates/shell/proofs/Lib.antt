pub mod Steps
pub mod Calls
pub mod Disks
pub mod Reach
