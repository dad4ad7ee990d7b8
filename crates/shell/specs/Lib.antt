pub mod Text
pub mod Script
pub mod Fleet
pub mod Ran
pub mod Reached
