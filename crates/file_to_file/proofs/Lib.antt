pub mod Passes
pub mod Theorem
