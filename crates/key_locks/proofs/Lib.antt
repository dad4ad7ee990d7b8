pub mod Flat
pub mod OneRow
