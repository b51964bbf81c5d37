-- Rests of a run: all cores are at home, and after so many entries none of them can do anything.
use Rattle.std.specs.Prelude.{◌≡◌, ◌⊎◌, ℕ, ◌+◌, List, [], ◌∷◌, ◌++◌, length}
use Rattle.dc_journal.specs.declared.merging.Logged.{Logged}
use Rattle.dc_logs.specs.Recorded.{Recorded}
use Rattle.dc_logs.specs.Rests.{AllOf}
use Rattle.dc_rounds.specs.Working.{IsQuietAt}
use Rattle.dc_script_turns.specs.Scripting.{IsNoUnmet}
use Rattle.dc_crew.specs.declared.seats.Seat.{Seat}
use Rattle.dc_crew.specs.Machines.{Staged}

-- how many entries the logs of these seats have together
abbrev pub entries_in_logs : List Seat → ℕ
entries_in_logs [] = 0
entries_in_logs (s ∷ ss) = length s.log.entries + entries_in_logs ss

-- The logs have n entries together. The script has seen so many, and so has each core, which can do nothing after them.
pub record IsRest (st : Staged) (n : ℕ) (seats : List Seat) (script : Seat) : Type 0 where
  pub all : entries_in_logs seats + length script.log.entries ≡ n
  pub cores : AllOf (λ (s : Seat). IsQuietAt st n s.pass s.pass.actor) seats
  pub seen : length script.pass.seen ≡ n

-- The log has more entries behind. One that ends an await whose console has too few words has the place n.
pub record GrowsAt (n : ℕ) (m o : Recorded) : Type 0 where
  pub more : List Logged
  pub entries : o.entries ≡ m.entries ++ more
  pub each : AllOf (λ (x : Logged). IsNoUnmet x.entry.what ⊎ (x.ticket.0 ≡ n)) more
  pub room : o.room ≡ m.room
