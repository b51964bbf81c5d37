pub mod JournalLines
pub mod Opened
pub mod Leaving
pub mod RestLaws
pub mod Whole
pub mod GoingLaws
