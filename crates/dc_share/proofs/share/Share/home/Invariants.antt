use Rattle.std.proofs.Common.{◌≡◌, drop}
use Rattle.dc_base.specs.Report.{home_of}
use Rattle.dc_share.proofs.share.Share.home.Given as goal

-- no block so far is home
abbrev pub invariant-loop-seat : goal.invariant-loop-seat
invariant-loop-seat l = home_of (drop l.seat-index l.self) ≡ home_of l.self
