-- What a turn of the script does to its log at a rest.
use Rattle.std.specs.Prelude.{◌≡◌, ◌≤◌, ◌<◌, ℕ, List, ◌++◌}
use Rattle.dc_journal.specs.declared.merging.Logged.{Logged}
use Rattle.dc_logs.specs.Recorded.{Recorded}
use Rattle.dc_logs.specs.Rests.{AllOf}

-- the log has more entries behind, whose places are at least n and below t
pub record GrowsWithin (n t : ℕ) (m o : Recorded) : Type 0 where
  pub more : List Logged
  pub entries : o.entries ≡ m.entries ++ more
  pub places : AllOf (λ (x : Logged). (n ≤ x.ticket.0) × (x.ticket.0 < t)) more
  pub room : o.room ≡ m.room
