pub mod Codes
pub mod Pass
pub mod Nodes
