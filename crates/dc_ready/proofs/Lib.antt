pub mod Listed
pub mod Fronts
pub mod Winners
pub mod Nodes
pub mod Mending
pub mod Leaves
pub mod Picks
