pub mod LastPolls
pub mod Resting
pub mod Settling
