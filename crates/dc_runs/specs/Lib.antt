pub mod Tries
pub mod Awaits
