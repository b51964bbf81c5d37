-- What the fields of a table stand for.
use Rattle.std.specs.Prelude.{◌*◌, ◌<◌, ◌≤◌}
use Rattle.dc_base.specs.Words.{Each}
use Rattle.dc_mdb.specs.Forests.{Node}
use Rattle.dc_caps.specs.declared.table.Table.TheInside.{Inside}
use Rattle.dc_caps.specs.Caps.{Caps, IsCap}
use Rattle.dc_caps.specs.Seats.{seats_of}

-- each slot of the forest, with its capability
abbrev pub caps_seen : Inside → Caps
caps_seen t = record { set = seats_of t.caps t.forest; disps = t.disps }

pub record IsWithin (t : Inside) : Type 0 where
  pub some : 0 < t.disps
  pub disps : t.disps ≤ 16
  pub caps : Each t.caps (λ i cap. IsCap cap)
  pub slots : Each t.forest (λ i (n : Node). n.0 < 16 * t.disps)
