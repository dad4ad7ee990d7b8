pub mod Chains
pub mod Managed
