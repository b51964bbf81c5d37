use Rattle.std.proofs.Common.{sym, ap, ◌∙◌}
use Rattle.std.specs.List.{remove}
use Rattle.dc_stage.proofs.Passes.{goes_on, holding, ok_turning, ok_giving, front_slot}
use Rattle.dc_stage.proofs.stage.Stage.put.Goals as goal

pub give-requires-clause-slot : goal.give-requires-clause-slot
give-requires-clause-slot g c κs within = let b = c.bring_forward.ensures in front_slot _ c.args.i b.front.0 (b.keys ∙ b.front.1)

pub invariant_of-pass : goal.invariant_of-pass
invariant_of-pass g c = let b = c.bring_forward.ensures in let t = c.give.ensures in
    goes_on (ap (λ z. z.slots) (t.same.0 ∙ b.same.0)) t.told (holding (c.remove.ensures.items ∙ ap (λ z. remove z 0) b.front.1)
    (ok_giving (holding (sym b.front.1) (ok_turning c.pass.invariant c.bring_forward.new.seat.me c.bring_forward.new.held.items b.same.2 b.keys b.kept b.apart))))
