pub mod Passes
pub mod Drafts
pub mod Files
pub mod Excess
