pub mod Report
pub mod Bounds
pub mod Promise
