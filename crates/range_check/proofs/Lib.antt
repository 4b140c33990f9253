pub mod Chains
pub mod Ranges
