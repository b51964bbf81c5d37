use Rattle.std.proofs.Common.{◌≡◌, take}
use Rattle.dc_base.specs.Placed.{parked_in}
use Rattle.dc_share.proofs.share.Share.parked.Given as goal

abbrev pub invariant-loop-seat : goal.invariant-loop-seat
invariant-loop-seat l = l.parked ≡ parked_in (take l.seat-index l.self)
