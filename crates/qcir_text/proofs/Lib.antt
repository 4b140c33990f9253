pub mod Texts
pub mod Lines
pub mod Files
pub mod Says
