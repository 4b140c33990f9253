pub mod Readings
pub mod Kept
pub mod Verdicts
pub mod Endings
pub mod Walk
