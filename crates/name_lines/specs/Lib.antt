pub mod Names
pub mod Walk
pub mod Kept
