pub mod Search
pub mod Members
pub mod Parts
pub mod Overwrite
pub mod Stores
pub mod Passing
pub mod Sums
