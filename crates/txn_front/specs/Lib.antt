pub mod Front
pub mod Index
pub mod OnKey
