pub mod Clocks
pub mod Remaining
pub mod Told
