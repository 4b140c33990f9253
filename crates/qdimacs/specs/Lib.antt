pub mod Problem
pub mod Spelling
pub mod Text
pub mod Laws
