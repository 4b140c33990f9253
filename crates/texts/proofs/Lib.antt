pub mod Numerals
pub mod Lengths
pub mod Stores
pub mod Put
