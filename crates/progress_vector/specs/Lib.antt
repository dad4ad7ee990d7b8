pub mod Vectors
pub mod Modes
