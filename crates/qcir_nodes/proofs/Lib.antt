pub mod Appending
pub mod Nodes
pub mod Roles
pub mod Stored
