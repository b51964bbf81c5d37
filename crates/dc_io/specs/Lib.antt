pub mod Counts
pub mod Files
pub mod Loads
pub mod Outputs
pub mod Room
pub mod Told
