pub mod Seen
pub mod Turns
pub mod Merges
pub mod States
pub mod Managing
pub mod Steps
pub mod Forgetting
pub mod Loads
