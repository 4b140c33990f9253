pub mod Tokens
pub mod Held
