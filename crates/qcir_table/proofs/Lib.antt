pub mod Copying
pub mod Gates
pub mod Lines
pub mod GateTokens
pub mod LineTokens
pub mod Table
pub mod Whole
