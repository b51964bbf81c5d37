pub mod Operations
pub mod Statements
pub mod Labels
pub mod Assembly
