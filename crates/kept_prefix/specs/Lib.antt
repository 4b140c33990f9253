pub mod Blocks
pub mod Leading
pub mod Kept
pub mod Form
pub mod Promise
