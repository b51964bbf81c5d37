pub mod Ends
pub mod Totals
pub mod Rows
pub mod Sorts
