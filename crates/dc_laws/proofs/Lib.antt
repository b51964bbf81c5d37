pub mod FirstBadLaws
pub mod Descents
pub mod ScriptRests
pub mod Revoking
