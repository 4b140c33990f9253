pub mod Loose
pub mod Words
pub mod Pieces
