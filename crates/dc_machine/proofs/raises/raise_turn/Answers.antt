use Rattle.std.proofs.Common.{◌<◌, refl, sym, subst}
use Rattle.dc_base.specs.declared.actions.Action.TheVariants as action
use Rattle.dc_base.specs.declared.actions.Actor.TheVariants as actor
use Rattle.dc_objects.specs.States.{state_of}
use Rattle.dc_machine.proofs.Bodies.{did_answers, none_answers}
use Rattle.dc_machine.proofs.OrderFacts.{read_at}
use Rattle.dc_machine.proofs.Raisings.{raise_fits, raised_there}
use Rattle.dc_machine.proofs.raises.raise_turn.Goals as goal

pub index_mut-wire-requires : goal.index_mut-wire-requires
index_mut-wire-requires g c =
    let s = state_of c.args.objects.now in
    let r = c.in-Ok.raise in
    subst (λ m. r.line.0 < m) (sym c.args.objects.now.lines.ok.0) (raised_there s r.place r.line c.requires c.in-Ok.ensures.raise.line)

pub raise_held-requires-clause-room : goal.raise_held-requires-clause-room
raise_held-requires-clause-room g c =
    let s = state_of c.args.objects.now in
    let r = c.in-Ok.raise in
    let w = c.index_mut-wire.result.now in
    raise_fits s r.line.0 w c.requires (read_at s.lines r.line.0 w (raised_there s r.place r.line c.requires c.in-Ok.ensures.raise.line) c.index_mut-wire.ensures.value)

pub returns-in-Ok-clause-step : goal.returns-in-Ok-clause-step
returns-in-Ok-clause-step g c polls =
    let s = state_of c.args.objects.now in
    let r = c.in-Ok.raise in
    let w = c.index_mut-wire.result.now in
    did_answers s actor.Script action.Raise _ c.raise_held.result
    (c.raise_held.ensures s refl (read_at s.lines r.line.0 w (raised_there s r.place r.line c.requires c.in-Ok.ensures.raise.line) c.index_mut-wire.ensures.value)) polls

pub returns-in-Err-clause-step : goal.returns-in-Err-clause-step
returns-in-Err-clause-step g c polls =
    let s = state_of c.args.objects.now in
    none_answers s actor.Script action.Raise c.in-Err.why (c.in-Err.ensures.none s refl) polls
