pub mod FormOutcome
pub mod Outcome
pub mod Steps
