pub mod Order
pub mod Names
pub mod Accepted
pub mod Flags
pub mod Entries
