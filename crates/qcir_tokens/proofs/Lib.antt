pub mod Roles
pub mod Parts
pub mod Files
pub mod Lowest
