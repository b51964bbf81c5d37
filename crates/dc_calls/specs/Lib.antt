pub mod Contexts
pub mod Ends
pub mod Outsides
pub mod Queued
pub mod Serves
pub mod Slices
pub mod Tested
