pub mod Marks
pub mod Logs
pub mod Rests
pub mod Recorded
