pub mod Beginnings
pub mod Shares
pub mod Fruitless
pub mod OwnRuns
pub mod Held
