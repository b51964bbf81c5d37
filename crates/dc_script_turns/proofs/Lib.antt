pub mod ScriptEntries
pub mod ScriptLooks
pub mod ScriptSteps
pub mod ScriptMakes
pub mod ScriptApart
pub mod ScriptPosts
pub mod ScriptLines
pub mod ScriptCounts
