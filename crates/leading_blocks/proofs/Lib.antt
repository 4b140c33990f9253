pub mod Flags
pub mod Joined
pub mod Fronts
pub mod Taking
