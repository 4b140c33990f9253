pub mod Numerals
pub mod Laws
pub mod Bounds
pub mod Put
