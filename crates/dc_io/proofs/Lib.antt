pub mod Adding
pub mod Unwritten
