pub mod Link
pub mod Held
pub mod Chains
pub mod Blocks
