use Rattle.std.proofs.Common.{[], ◌∷◌, sym, ap, ◌∙◌}
use Rattle.dc_base.specs.declared.entries.What.TheVariants as what
use Rattle.dc_base.specs.Changes.{block_becomes, line_becomes}
use Rattle.dc_base.specs.Lines.{Wire, wire_after_intake}
use Rattle.dc_base.specs.Outcomes.{by_core}
use Rattle.dc_base.specs.Ports.{how_latched, latch_at}
use Rattle.dc_base.specs.States.{Block}
use Rattle.dc_base.specs.Turns.{did}
use Rattle.dc_bodies.proofs.IntakeTurns.{intake_is}
use Rattle.dc_bodies.proofs.intakes.take_in_held.Goals as goal

pub returns : goal.returns
returns g c =
    let x : Block = c.args.block.now in
    let y : Block = c.intake-latched.new.self in
    let w : Wire = c.args.line.now in
    let p = c.args.p in
    let b = p.block.0 in
    let l = c.args.l.0 in
    intake_is c.args.c.0 l p w c.intake.new.self x y c.by_core.result
    (ap (λ (z : Block). did (block_becomes b z ∷ line_becomes l (wire_after_intake (how_latched (latch_at x.control.parts.signals p.signal.0)) w) ∷ []) (by_core c.args.c.0 (what.Intake c.args.l p.number p.block p.signal (how_latched (latch_at x.control.parts.signals p.signal.0))))) (sym c.intake-latched.ensures.block)
    ∙ ap (λ h. did (block_becomes b y ∷ line_becomes l (wire_after_intake h w) ∷ []) (by_core c.args.c.0 (what.Intake c.args.l p.number p.block p.signal h))) (sym c.intake-latched.ensures.how)
    ∙ ap (λ (v : Wire). did (block_becomes b y ∷ line_becomes l v ∷ []) (by_core c.args.c.0 (what.Intake c.args.l p.number p.block p.signal c.intake-latched.result))) (sym c.intake.ensures)
    ∙ ap (did (block_becomes b y ∷ line_becomes l c.intake.new.self ∷ [])) (sym c.by_core.ensures))
