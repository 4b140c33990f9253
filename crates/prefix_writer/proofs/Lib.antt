pub mod Writing
pub mod Words
pub mod Names
pub mod Levels
pub mod Depth
pub mod Prefix
