pub mod Begins
pub mod Done
pub mod Kernels
pub mod Running
pub mod Sides
pub mod Turned
