pub mod Buffer
pub mod Added
pub mod Entries
pub mod Blocks
pub mod Constraint
pub mod Chain
pub mod Levels
