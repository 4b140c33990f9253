pub mod Answers
pub mod Form
pub mod Matrix
pub mod Measured
