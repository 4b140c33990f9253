pub mod Passes
pub mod TableFits
