pub mod Verdict
pub mod Order
pub mod Accepted
pub mod Answer
pub mod Steps
