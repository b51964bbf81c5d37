pub mod Rings
pub mod Consoles
