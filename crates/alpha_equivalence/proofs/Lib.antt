pub mod Congruence
pub mod Theorem
pub mod Decoding
pub mod UniqueHighest
pub mod Unique
pub mod Examples
