use Rattle.std.proofs.Common.{◌≡◌, drop, false}
use Rattle.std.specs.Prelude.{slice_index_or}
use Rattle.std.specs.List.{find}
use Rattle.dc_base.specs.Outcomes.{share_blocks}
use Rattle.dc_share.proofs.share.Share.next.Given as goal

-- no block so far is runnable
abbrev pub invariant-loop-seat : goal.invariant-loop-seat
invariant-loop-seat l = find (λ b. slice_index_or l.runnable b false) (share_blocks (drop l.seat-index l.self)) ≡ find (λ b. slice_index_or l.runnable b false) (share_blocks l.self)
