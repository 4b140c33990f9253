pub mod Lines
pub mod Says
pub mod Reading
pub mod Unique
