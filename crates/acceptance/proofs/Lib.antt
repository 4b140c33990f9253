pub mod Order
pub mod Accepted
pub mod Matrix
