pub mod Form
pub mod Texts
pub mod Promise
pub mod Memory
pub mod Measuring
pub mod Calls
pub mod Plain
