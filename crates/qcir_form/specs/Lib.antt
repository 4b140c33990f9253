pub mod Rows
pub mod File
pub mod Laws
pub mod Promise
