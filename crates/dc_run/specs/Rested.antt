-- Rests of a run that its cores saw, before the entries for which there must be one.
use Rattle.std.specs.Prelude.{ℕ, Bool, true, false, List, map}
use Rattle.dc_base.specs.declared.entries.Entry.{Entry}
use Rattle.dc_base.specs.declared.entries.What.{What}
use Rattle.dc_base.specs.declared.entries.What.TheVariants as what
use Rattle.dc_crew.specs.declared.seats.Seat.{Seat}
use Rattle.dc_crew.specs.Machines.{Staged}
use Rattle.dc_hands.specs.Machines.{state_after}
use Rattle.dc_journal.specs.declared.merging.Logged.{Logged}
use Rattle.dc_logs.specs.Marks.{mark_of}
use Rattle.dc_logs.specs.Recorded.{Recorded}
use Rattle.dc_logs.specs.Rests.{AllOf, QuietBy, places}
use Rattle.dc_runs.specs.Tries.{IsTriedOut}
use Rattle.dc_stage.specs.History.{Log}

-- it ends an await whose console has too few words
abbrev pub is_unmet : What → Bool
is_unmet (what.Unmet q b seen) = true
is_unmet w = false

abbrev pub needs_rest : Entry → Bool
needs_rest e = is_unmet e.what

-- core c can do nothing after these entries
abbrev pub IsTriedAfter : Staged → ℕ → Log Entry → Type 0
IsTriedAfter st c seen = IsTriedOut (state_after st seen) c

-- the core of this seat has seen a rest before each entry of the log that needs one
abbrev pub HasSeenRests : Staged → List Logged → Seat → Type 0
HasSeenRests st log s = AllOf (λ t. QuietBy (IsTriedAfter st s.pass.actor) t s.pass.seen) (places needs_rest (map mark_of log))

-- so have all cores, before the entries of the script's log
abbrev pub HaveSeenRests : Staged → Recorded → List Seat → Type 0
HaveSeenRests st m seats = AllOf (HasSeenRests st m.entries) seats
