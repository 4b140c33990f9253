pub mod Flags
pub mod Front
