pub mod Removal
pub mod Laws
pub mod Promise
