pub mod Counting
pub mod Playing
pub mod Plays
pub mod ReportLines
pub mod Summaries
pub mod Written
pub mod Played
pub mod Telling
