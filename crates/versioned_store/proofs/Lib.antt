pub mod Latest
pub mod Entries
pub mod Pairs
pub mod Changes
pub mod Turns
pub mod Keeping
pub mod Based
