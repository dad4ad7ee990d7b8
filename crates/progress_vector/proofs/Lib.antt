pub mod Epochs
pub mod Forks
pub mod Forms
