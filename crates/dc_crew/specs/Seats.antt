-- Seats of actors between their turns.
use Rattle.std.specs.Prelude.{◌≡◌, ◌<◌, []}
use Rattle.dc_stage.specs.Passes.{IsOf}
use Rattle.dc_hands.specs.Rows.{no_row}
use Rattle.dc_logs.specs.Marks.{IsLogOf}
use Rattle.dc_crew.specs.declared.seats.Seat.{Seat}
use Rattle.dc_crew.specs.Machines.{Staged, IsLawfulHere}

-- The pass is of the stage, holds nothing and has seen a lawful history. The log has just the entries of its actor, and the row is empty.
pub record IsSeat (st : Staged) (s : Seat) : Type 0 where
  pub of : IsOf s.pass st
  pub empty : s.pass.holds ≡ []
  pub lawful : IsLawfulHere st s.pass.seen
  pub log : IsLogOf s.pass.actor s.pass.seen s.log.entries
  pub row : s.row ≡ no_row

-- it is the seat of a core
abbrev pub IsCoreSeat : Staged → Seat → Type 0
IsCoreSeat st s = IsSeat st s × (s.pass.actor < st.scene.settings.cores)

-- it is the seat of the script
abbrev pub IsScriptSeat : Staged → Seat → Type 0
IsScriptSeat st s = IsSeat st s × (s.pass.actor ≡ st.scene.settings.cores)
