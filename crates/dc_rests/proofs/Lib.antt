pub mod InHand
pub mod TurnedCores
pub mod SeatLogs
pub mod Crews
