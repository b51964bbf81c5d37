-- Schedules and journals of drills, computed.
use Rattle.std.specs.Prelude.{◌≡◌, [], ◌∷◌, ◌++◌, codes, refl, Ok, Err}
use Rattle.std.specs.Fmt.{digits}
use Rattle.dc_base.specs.declared.kernels.Version.TheVariants.{Rr, Edf}
use Rattle.dc_base.specs.declared.actions.Actor.TheVariants as actor
use Rattle.dc_base.specs.declared.actions.Action.TheVariants as action
use Rattle.dc_base.specs.declared.commands.Bounds.{Bounds}
use Rattle.dc_base.specs.declared.entries.What.TheVariants as what
use Rattle.dc_base.specs.declared.faults.TextKind.TheVariants as fault
use Rattle.dc_base.specs.declared.faults.TextFault.TheVariants.{Bad}
use Rattle.dc_base.specs.TextWords.{ended, number_of}
use Rattle.dc_base.specs.ScriptText.{schedule_of, text_read, schedule_line, core_action_line, read_core, read_version, number_below}
use Rattle.dc_base.specs.EntryText.{entry_text}
use Rattle.dc_base.specs.EntryRanges.{has_line}
use Rattle.dc_base.specs.LooseEntries.{candidate, core_what}
use Rattle.dc_base.specs.JournalText.{entry_of}
use Rattle.dc_restart.specs.declared.drills.DrillLine.TheVariants as line
use Rattle.dc_restart.specs.declared.drills.DrillEntry.TheVariants as entry
use Rattle.dc_restart.specs.DrillText.{drill_of, drill_line, drill_entry_text, drill_journal_of, drill_entry_of}

abbrev bounds : Bounds
bounds = record { cores = 1; blocks = 1; lines = 0 }

-- what schedules are read by
unfoldable read_schedules : Unit {0}
unfolding drill_of drill_line schedule_of text_read schedule_line core_action_line read_core read_version number_below number_of
read_schedules = tt

schedule_is_read : drill_of bounds (ended (codes "core 0 step") ++ codes "core 0 fault edf")
    ≡ Ok (line.Plain (actor.Core (record { 0 = 0 })) action.Step ∷ line.Fault (record { 0 = 0 }) Edf ∷ [])
unfolding read_schedules
schedule_is_read = refl

-- a schedule of a play has no faults
no_fault_in_play : schedule_of bounds (codes "core 0 fault edf") ≡ Err (Bad 1 fault.UnknownWord)
unfolding read_schedules
no_fault_in_play = refl

short_fault_is_refused : drill_of bounds (codes "core 0 fault") ≡ Err (Bad 1 fault.WrongCount)
unfolding read_schedules
short_fault_is_refused = refl

fault_is_spelled : drill_entry_text 2 (entry.Fault (record { 0 = 0 }) Edf) ≡ codes "2 core 0 fault edf"
unfolding drill_entry_text digits
fault_is_spelled = refl

journal_is_read : drill_journal_of (ended (codes "0 core 0 idle clock 5") ++ ended (codes "1 core 0 fault rr"))
    ≡ Ok (entry.Plain (record { actor = actor.Core (record { 0 = 0 }); what = what.Idle 5 }) ∷ entry.Fault (record { 0 = 0 }) Rr ∷ [])
unfolding drill_journal_of drill_entry_of drill_entry_text entry_of candidate core_what entry_text has_line digits
journal_is_read = refl
