use Rattle.std.proofs.Common.{refl}
use Rattle.std.proofs.lemmas.Option.{slice_get_within}
use Rattle.dc_base.specs.declared.actions.Action.TheVariants as action
use Rattle.dc_base.specs.declared.actions.Actor.TheVariants as actor
use Rattle.dc_base.specs.States.{ack}
use Rattle.dc_objects.specs.States.{state_of}
use Rattle.dc_machine.proofs.Bodies.{did_answers}
use Rattle.dc_machine.proofs.OrderFacts.{read_at, read_is}
use Rattle.dc_machine.proofs.posts.done.Goals as goal

pub done_held-requires-clause-acked : goal.done_held-requires-clause-acked
done_held-requires-clause-acked g c =
    let s = state_of c.args.objects.now in
    read_is s.mailboxes c.args.last.0 c.index_mut-emptied.result.now ack c.requires.acked c.index_mut-emptied.ensures.value

pub returns-clause-step : goal.returns-clause-step
returns-clause-step g c polls =
    let s = state_of c.args.objects.now in
    let m = c.index_mut-emptied.result.now in
    let there = read_at s.mailboxes c.args.last.0 m (slice_get_within s.mailboxes c.args.last.0 ack c.requires.acked) c.index_mut-emptied.ensures.value in
    did_answers s actor.Script action.Script _ c.done_held.result (c.done_held.ensures s refl there) polls
