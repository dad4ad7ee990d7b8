pub mod EpochOrder
pub mod FieldLaws
pub mod SameIds
pub mod Twice
