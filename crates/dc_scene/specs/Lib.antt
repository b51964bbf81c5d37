pub mod Objects
pub mod Machines
pub mod Sizes
pub mod Actors
pub mod Laws
