mod Numbers
mod Ranges
mod ScheduleValid
mod ScriptValid
mod ImageParts
mod ImageValid
mod InputValid
