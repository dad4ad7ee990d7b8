pub mod Commits
pub mod Epochs
pub mod Held
pub mod Log
pub mod Tables
pub mod Whole
