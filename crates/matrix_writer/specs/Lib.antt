pub mod Added
pub mod Buffer
pub mod Entries
pub mod Chain
