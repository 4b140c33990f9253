pub mod Defined
pub mod Renamed
