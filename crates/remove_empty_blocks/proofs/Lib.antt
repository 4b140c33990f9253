pub mod Renumbered
pub mod Left
pub mod Outcome
pub mod UpToNine
