pub mod Rooms
pub mod Placing
