pub mod Limits
pub mod Verdict
pub mod Order
pub mod Accepted
