use Rattle.std.proofs.Common.{subst}
use Rattle.dc_hands.specs.declared.hands.CoreHand.{CoreHand}
use Rattle.dc_hands.specs.Gathering.{HoldsRow}
use Rattle.dc_hands.specs.Rows.{Rowed}
use Rattle.dc_hands.proofs.gathers.put_blocks.Goals as goal

pub put_last-requires-clause-row : goal.put_last-requires-clause-row
put_last-requires-clause-row g c κs within =
    let h : CoreHand g.row.D.Denot = c.loop-last.hand in
    subst (λ (r : Rowed). HoldsRow c.args.stage.now c.loop-last.pass (record h { row = r })) c.in-Some.ensures.last c.loop-last.invariant.row
