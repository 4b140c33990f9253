pub mod Flags
pub mod Free
pub mod Found
