use Rattle.std.proofs.Common.{refl}
use Rattle.dc_base.specs.declared.actions.Action.TheVariants as action
use Rattle.dc_base.specs.declared.actions.Actor.TheVariants as actor
use Rattle.dc_objects.specs.States.{state_of}
use Rattle.dc_machine.proofs.Bodies.{did_answers}
use Rattle.dc_machine.proofs.OrderFacts.{read_at}
use Rattle.dc_machine.proofs.commands.route.Goals as goal

pub returns-clause-step : goal.returns-clause-step
returns-clause-step g c polls =
    let s = state_of c.args.objects.now in
    let w = c.index_mut-wire.result.now in
    did_answers s actor.Script action.Script _ c.route_held.result (c.route_held.ensures s refl (read_at s.lines c.args.l.0 w c.requires.line c.index_mut-wire.ensures.value)) polls
