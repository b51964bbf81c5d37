pub mod ScriptPlaces
pub mod StartMembers
pub mod StartWhole
