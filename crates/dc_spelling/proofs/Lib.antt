pub mod WordsLemmas
pub mod Reading
pub mod PlainWords
pub mod Numerals
pub mod EntryWords
pub mod EntryLines
pub mod CoreEntries
pub mod ScriptEntries
pub mod Candidates
pub mod Journals
pub mod Tickets
pub mod ReadRanges
pub mod ReadLines
pub mod Deciding
mod PremisesNeeded
