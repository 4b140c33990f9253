pub mod Named
pub mod Users
pub mod Counts
