pub mod Changes
pub mod Disk
pub mod Kept
pub mod KeptBy
pub mod Laws
