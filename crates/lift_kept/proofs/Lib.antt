pub mod Outcomes
pub mod Form
pub mod Put
pub mod Calls
pub mod Ways
