pub mod Verdict
pub mod Outcome
