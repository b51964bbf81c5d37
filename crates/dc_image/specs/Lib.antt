pub mod KeyText
pub mod Faults
pub mod ImageKeys
pub mod CapsOf
pub mod DispsOf
pub mod BlocksOf
pub mod ImageOf
