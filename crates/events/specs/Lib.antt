pub mod Calls
pub mod Locking
pub mod Answers
pub mod Replay
