pub mod Digits
pub mod Commas
pub mod Numbers
mod Scanning
mod Texts
mod TextLines
pub mod Joining
