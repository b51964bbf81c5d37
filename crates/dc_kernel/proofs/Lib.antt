pub mod Between
pub mod FiredParts
pub mod Going
pub mod SliceTurns
