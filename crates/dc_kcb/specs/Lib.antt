pub mod Controls
pub mod Readings
pub mod Starts
pub mod Wholes
