pub mod Pieces
pub mod Outcomes
