pub mod Effect
pub mod Rows
