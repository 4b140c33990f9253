pub mod Operators
pub mod Nodes
pub mod Gates
pub mod Root
