pub mod Rested
pub mod Going
pub mod Running
pub mod Texts
pub mod Openings
pub mod Endings
