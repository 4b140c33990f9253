pub mod Pass
pub mod Excess
