pub mod Changes
pub mod Calls
pub mod Windows
pub mod Steps
pub mod Turns
pub mod Ends
pub mod Slices
