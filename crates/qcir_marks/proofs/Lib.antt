pub mod Steps
pub mod Pass
pub mod Turns
