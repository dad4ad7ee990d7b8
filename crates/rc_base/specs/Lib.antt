pub mod Counts
pub mod Fields
pub mod Ids
pub mod Limits
pub mod Members
pub mod Names
pub mod Quorum
