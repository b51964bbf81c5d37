pub mod Looked
pub mod AtWork
pub mod QuietSteps
pub mod Coming
