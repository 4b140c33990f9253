pub mod Outer
pub mod Steps
