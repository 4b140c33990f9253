pub mod Passes
pub mod Files
