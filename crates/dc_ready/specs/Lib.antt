pub mod Entries
pub mod Heaps
