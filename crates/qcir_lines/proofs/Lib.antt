pub mod Rows
pub mod Free
pub mod Prefix
pub mod Nodes
pub mod Gates
pub mod Form
