pub mod Frames
pub mod Openings
pub mod RowKinds
pub mod Stages
pub mod Takings
