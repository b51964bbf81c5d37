pub mod Entries
pub mod Clocks
pub mod Holding
pub mod Booting
pub mod Answering
pub mod CarryingOut
pub mod Raising
pub mod Whole
