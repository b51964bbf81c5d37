pub mod Numbering
pub mod Starts
pub mod Runs
