pub mod Pieces
pub mod Lines
pub mod Reports
