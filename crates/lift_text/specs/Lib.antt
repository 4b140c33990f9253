pub mod Formats
pub mod Lifting
pub mod Memory
pub mod Measuring
