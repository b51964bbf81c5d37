pub mod Machines
pub mod Holding
pub mod Answers
pub mod Rows
pub mod Hands
pub mod Gathering
