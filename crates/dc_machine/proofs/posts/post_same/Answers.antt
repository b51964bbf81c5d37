use Rattle.std.proofs.Common.{refl, subst}
use Rattle.std.specs.Prelude.{slice_set}
use Rattle.std.proofs.lemmas.Option.{slice_get_within}
use Rattle.dc_base.specs.declared.actions.Action.TheVariants as action
use Rattle.dc_base.specs.declared.actions.Actor.TheVariants as actor
use Rattle.dc_base.specs.Cores.{core_step}
use Rattle.dc_base.specs.States.{empty, ack}
use Rattle.dc_bodies.specs.declared.stops.Stepped.TheVariants as stepped
use Rattle.dc_objects.specs.States.{state_of}
use Rattle.dc_machine.specs.Answers.{Answers}
use Rattle.dc_machine.proofs.Bodies.{did_answers}
use Rattle.dc_machine.proofs.OrderFacts.{read_at, read_is}
use Rattle.dc_machine.proofs.Postings.{set_twice}
use Rattle.dc_machine.proofs.posts.post_same.Goals as goal

pub post_same_held-requires-clause-acked : goal.post_same_held-requires-clause-acked
post_same_held-requires-clause-acked g c =
    let s = state_of c.args.objects.now in
    read_is s.mailboxes c.args.core.0 c.index_mut-mailbox.result.now ack c.requires.acked c.index_mut-mailbox.ensures.value

pub returns-clause-step : goal.returns-clause-step
returns-clause-step g c polls =
    let s = state_of c.args.objects.now in
    let m = c.index_mut-mailbox.result.now in
    let there = read_at s.mailboxes c.args.core.0 m (slice_get_within s.mailboxes c.args.core.0 ack c.requires.acked) c.index_mut-mailbox.ensures.value in
    subst (λ ms. Answers (stepped.Did c.post_same_held.result) s (record s { mailboxes = ms; script = c.post_same_held.new.script }) (core_step s polls actor.Script action.Script))
    (set_twice s.mailboxes c.args.core.0 empty c.post_same_held.new.both)
    (did_answers s actor.Script action.Script _ c.post_same_held.result (c.post_same_held.ensures s refl there) polls)
