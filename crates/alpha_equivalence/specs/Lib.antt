pub mod AlphaEquivalence
pub mod Lifts
pub mod Files
pub mod Examples
