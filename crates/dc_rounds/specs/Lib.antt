pub mod Working
pub mod Homes
