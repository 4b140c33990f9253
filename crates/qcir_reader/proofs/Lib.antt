pub mod Stages
pub mod Numbers
pub mod Unique
pub mod Texts
