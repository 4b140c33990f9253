pub mod Outcome
pub mod Arrays
