pub mod Lines
pub mod Growth
pub mod Totals
pub mod Laws
pub mod Steps
pub mod Bounds
