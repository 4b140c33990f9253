pub mod Nodes
pub mod Chains
pub mod Highest
pub mod Chaining
