pub mod Equal
pub mod Grants
pub mod Laws
pub mod Names
pub mod Table
