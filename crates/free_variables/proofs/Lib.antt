pub mod Flags
pub mod Listing
pub mod RoomEnough
