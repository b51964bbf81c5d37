-- What contracts see of an actor's log.
use Rattle.std.specs.Prelude.{ℕ, List}
use Rattle.dc_journal.specs.declared.merging.Logged.{Logged}

-- its entries, and for how many it has room
pub record Recorded : Type 0 where
  pub entries : List Logged
  pub room : ℕ
