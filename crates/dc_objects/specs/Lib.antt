pub mod Blocks
pub mod Mailboxes
pub mod Places
pub mod Scripts
pub mod Starts
pub mod States
