pub mod Entries
pub mod Indexed
pub mod Seen
pub mod OnKeys
pub mod Fronts
pub mod Asked
