pub mod Chains
pub mod Stores
pub mod Loops
pub mod SeenBy
