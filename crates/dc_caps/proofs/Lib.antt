pub mod Seating
pub mod Tabled
pub mod Changing
pub mod Called
pub mod Holding
