-- Where a premise of the law does not hold, what is spelled is not read: computed.
use Rattle.std.specs.Prelude.{◌≡◌, List, [], ◌∷◌, ◌++◌, codes, refl, Ok, Err}
use Rattle.std.specs.Fmt.{digits}
use Rattle.dc_base.specs.declared.actions.Actor.TheVariants as actor
use Rattle.dc_base.specs.declared.entries.What.TheVariants as what
use Rattle.dc_base.specs.declared.entries.Entry.{Entry}
use Rattle.dc_base.specs.EntryText.{entry_text, journal_text}
use Rattle.dc_base.specs.EntryRanges.{has_line}
use Rattle.dc_base.specs.LooseEntries.{candidate, core_what, script_what}
use Rattle.dc_base.specs.JournalText.{journal_of, entry_of}

-- a block's number of 33 bits
abbrev out_of_range : List Entry
out_of_range = record { actor = actor.Core (record { 0 = 0 }); what = what.Wake (record { 0 = 4294967296 }) (record { 0 = 0 }) } ∷ []

out_of_range_fails : journal_of (journal_text out_of_range) ≡ Err 1
unfolding journal_of entry_of candidate core_what journal_text entry_text digits has_line
out_of_range_fails = refl

-- the largest number in range
abbrev largest : List Entry
largest = record { actor = actor.Core (record { 0 = 0 }); what = what.Wake (record { 0 = 4294967295 }) (record { 0 = 0 }) } ∷ []

largest_is_read : journal_of (journal_text largest) ≡ Ok largest
unfolding journal_of entry_of candidate core_what journal_text entry_text digits has_line
largest_is_read = refl

-- the script is never idle
abbrev without_line : List Entry
without_line = record { actor = actor.Script; what = what.Idle 1 } ∷ []

without_line_fails : journal_of (journal_text without_line) ≡ Err 1
unfolding journal_of entry_of candidate script_what journal_text entry_text digits has_line
without_line_fails = refl

-- a byte behind the entries
anything_behind_fails : journal_of (journal_text [] ++ codes "x") ≡ Err 1
unfolding journal_of journal_text
anything_behind_fails = refl
