-- An actor between its turns: its pass holds nothing, and the log has its entries.
use Rattle.std.specs.Prelude.{◌≡◌, ℕ, []}
use Rattle.dc_logs.specs.Marks.{IsLogOf}
use Rattle.dc_logs.specs.Recorded.{Recorded}
use Rattle.dc_hands.specs.Machines.{Staged, Passing, IsLawfulHere}

pub record IsAtHome {D : Type 0} (st : Staged D) (k : Passing D) (l : Recorded) (a : ℕ) : Type 0 where
  pub actor : k.actor ≡ a
  pub holds : k.holds ≡ []
  pub lawful : IsLawfulHere st k.seen
  pub log_is : IsLogOf k.actor k.seen l.entries
