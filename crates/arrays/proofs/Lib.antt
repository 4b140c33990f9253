pub mod Link
pub mod Enclosing
pub mod Members
pub mod Nodes
pub mod Entries
pub mod Chains
pub mod Bound
pub mod Depth
