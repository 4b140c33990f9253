pub mod Places
pub mod Filled
