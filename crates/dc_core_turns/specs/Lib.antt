pub mod Ordering
pub mod Beside
pub mod Beyond
pub mod Lending
pub mod Stopping
pub mod Turning
