pub mod Runs
pub mod Steps
pub mod Prefix
pub mod Whole
pub mod Held
