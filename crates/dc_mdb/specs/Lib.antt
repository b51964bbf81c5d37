pub mod Counts
pub mod Forests
pub mod Links
pub mod Within
