pub mod Scripting
