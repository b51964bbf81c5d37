use Rattle.std.proofs.Common.{◌≡◌, take, map}
use Rattle.dc_base.specs.Report.{block_no}
use Rattle.dc_base.specs.States.{Member}
use Rattle.dc_share.proofs.share.Share.blocks.Given as goal

abbrev pub invariant-loop-seat : goal.invariant-loop-seat
invariant-loop-seat l = l.blocks.items ≡ map (λ (m : Member). block_no m.block) (take l.seat-index l.self)
