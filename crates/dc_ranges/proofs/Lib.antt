pub mod Bounds
pub mod Shown
pub mod Slices
pub mod StepEntries
pub mod CoreEntries
pub mod Refusals
pub mod ScriptEntries
pub mod RunEntries
