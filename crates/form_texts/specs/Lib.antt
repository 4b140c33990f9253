pub mod Writing
pub mod Words
