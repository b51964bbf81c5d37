mod Counted
mod Tallies
mod CoreEntries
mod ScriptEntries
mod Reached
