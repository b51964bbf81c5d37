pub mod Views
pub mod Registries
