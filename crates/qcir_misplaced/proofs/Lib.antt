pub mod Turn
pub mod Above
pub mod Entries
pub mod Shapes
pub mod Listed
pub mod Defined
pub mod Gates
pub mod Misplaced
