-- What a stage leaves when it ends.
use Rattle.std.specs.Prelude.{◌≡◌, ◌≢◌, ℕ, List, [], map}
use mathlib.Core.List.{IsPrefix}
use Rattle.dc_base.specs.declared.entries.Entry.{Entry}
use Rattle.dc_base.specs.Histories.{after, entries_in}
use Rattle.dc_base.specs.Objects.{objects}
use Rattle.dc_logs.specs.Rests.{AllOf}
use Rattle.dc_scene.specs.Objects.{object_seen}
use Rattle.dc_stage.specs.History.{Log, own}
use Rattle.dc_crew.specs.declared.ends.Ended.{Ended}
use Rattle.dc_crew.specs.declared.seats.Seat.{Seat}
use Rattle.dc_crew.specs.Machines.{Staged, IsLawfulHere}

-- what the seat's pass has seen is a beginning of the history, with all entries of its actor
abbrev pub HasPart : Log Entry → Seat → Type 0
HasPart history s = IsPrefix s.pass.seen history × (own s.pass.actor history ≡ own s.pass.actor s.pass.seen)

-- The journal and the objects are those of a lawful history from the machine's start, of which each seat has its part, and nobody else has one.
pub record HasEnded (st : Staged) (seats : List Seat) (r : Ended) : Type 0 where
  pub history : Log Entry
  pub lawful : IsLawfulHere st history
  pub entries : r.journal.items ≡ entries_in history
  pub objects_are : map object_seen r.objects.items ≡ objects (after st.scene.start history)
  pub parts : AllOf (HasPart history) seats
  pub others : (a : ℕ) → AllOf (λ (s : Seat). s.pass.actor ≢ a) seats → own a history ≡ []
