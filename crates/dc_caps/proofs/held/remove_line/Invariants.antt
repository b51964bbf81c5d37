use Rattle.std.proofs.Common.{◌≡◌, take}
use Rattle.std.specs.Prelude.{filter, fold, slice_index_or}
use Rattle.dc_base.specs.Capabilities.{is_of_line}
use Rattle.dc_mdb.specs.Forests.{without_slot}
use Rattle.dc_caps.specs.Seats.{no_cap}
use Rattle.dc_caps.proofs.held.remove_line.Given as goal

abbrev pub invariant-loop-slot : goal.invariant-loop-slot
invariant-loop-slot l = l.forest ≡ fold (λ nodes s. without_slot s nodes) l.initial.forest (filter (λ s. is_of_line l.line.0 (slice_index_or l.caps s no_cap).kind) (take l.slot-index l.slot-items))
