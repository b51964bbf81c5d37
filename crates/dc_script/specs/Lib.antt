pub mod Shorts
pub mod Words
pub mod Texts
