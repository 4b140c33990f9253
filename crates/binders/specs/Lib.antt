pub mod Scope
pub mod Walk
