pub mod Kept
pub mod Behind
pub mod Steps
pub mod Opened
pub mod Runs
mod Grown
mod Exclusive
mod OneCommit
mod OneAbort
mod OneAppointment
