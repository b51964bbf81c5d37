use Rattle.std.proofs.Common.{sym, ap, ◌∙◌}
use Rattle.std.specs.Prelude.{is_some}
use Rattle.dc_base.specs.declared.actions.Action.TheVariants as action
use Rattle.dc_base.specs.declared.entries.Reason.TheVariants as reason
use Rattle.dc_base.specs.Intakes.{intake_turn}
use Rattle.dc_base.specs.Turns.{outcome}
use Rattle.dc_objects.specs.States.{state_of}
use Rattle.dc_bodies.proofs.IntakeTurns.{core_off, core_on}
use Rattle.dc_machine.proofs.Refusals.{refuses, at_index}
use Rattle.dc_machine.proofs.Sounds.{here}
use Rattle.dc_machine.proofs.Stops.{core_answers}
use Rattle.dc_machine.proofs.intakes.intake_turn.Goals as goal

pub returns-then-is_none-clause-step : goal.returns-then-is_none-clause-step
returns-then-is_none-clause-step g c =
    let s = state_of c.args.objects.now in
    let k = c.index-core.result.now in
    core_answers s s c.args.c (action.Intake c.args.l) k _ (at_index s.cores c.args.c.0 k c.requires.core c.index-core.ensures)
    (refuses s reason.CoreOff (outcome s (intake_turn c.args.c.0 k c.args.l.0)) (core_off s c.args.c.0 k c.args.l.0 (sym (ap (λ v. is_some v) c.version.ensures) ∙ c.if-is_none.ensures)))

pub take_in-requires-clause-line : goal.take_in-requires-clause-line
take_in-requires-clause-line g c κs within =
    let s = state_of c.args.objects.now in
    let w = c.index.result.now in
    (w, at_index s.lines c.args.l.0 w c.requires.line c.index.ensures, c.in-Ok.ensures.taken.bound, c.in-Ok.ensures.taken.number)

pub take_in-requires-clause-block : goal.take_in-requires-clause-block
take_in-requires-clause-block g c κs within =
    let s = state_of c.args.objects.now in
    let k = c.index-core.result.now in
    let h = here s c.args.c.0 k c.in-Ok.p.block.0 c.requires.sound (at_index s.cores c.args.c.0 k c.requires.core c.index-core.ensures) c.in-Ok.ensures.taken.here in
    (h.block, h.there, h.held)

pub returns-in-Ok-clause-step : goal.returns-in-Ok-clause-step
returns-in-Ok-clause-step g c =
    let s = state_of c.args.objects.now in
    let k = c.index-core.result.now in
    let w = c.index.result.now in
    let p = c.in-Ok.p in
    let t = c.in-Ok.ensures.taken in
    let core = at_index s.cores c.args.c.0 k c.requires.core c.index-core.ensures in
    let h = here s c.args.c.0 k p.block.0 c.requires.sound core t.here in
    c.take_in.ensures.step k w h.block t
    (record { core = core; is_on = sym (ap (λ v. is_some v) c.version.ensures) ∙ c.if-is_none.ensures; line = at_index s.lines c.args.l.0 w c.requires.line c.index.ensures; block = h.there })

pub returns-in-Err-clause-step : goal.returns-in-Err-clause-step
returns-in-Err-clause-step g c =
    let s = state_of c.args.objects.now in
    let k = c.index-core.result.now in
    let w = c.index.result.now in
    core_answers s s c.args.c (action.Intake c.args.l) k _ (at_index s.cores c.args.c.0 k c.requires.core c.index-core.ensures)
    (refuses s c.in-Err.why (outcome s (intake_turn c.args.c.0 k c.args.l.0))
    (core_on s c.args.c.0 k c.args.l.0 w (sym (ap (λ v. is_some v) c.version.ensures) ∙ c.if-is_none.ensures) (at_index s.lines c.args.l.0 w c.requires.line c.index.ensures)
    ∙ ap (λ t. outcome s t) (c.in-Err.ensures.refused c.args.l.0)))
