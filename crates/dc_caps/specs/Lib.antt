pub mod Caps
pub mod Outcomes
pub mod Seats
pub mod Tables
