pub mod Words
pub mod Named
pub mod Left
pub mod Nodes
pub mod Tree
pub mod Truth
pub mod Theorem
