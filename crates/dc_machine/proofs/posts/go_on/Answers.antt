use Rattle.std.proofs.Common.{Some, Option, ap, ◌∙◌, subst}
use Rattle.dc_base.specs.declared.actions.Action.TheVariants as action
use Rattle.dc_base.specs.declared.actions.Actor.TheVariants as actor
use Rattle.dc_base.specs.declared.commands.Order.{Order}
use Rattle.dc_base.specs.declared.numbers.CoreNo.{CoreNo}
use Rattle.dc_bodies.proofs.CommandTurns.{no_mailbox}
use Rattle.dc_bodies.specs.declared.posts.Posting.TheVariants as posting
use Rattle.dc_bodies.specs.Postings.{IsPosting}
use Rattle.dc_objects.specs.States.{state_of}
use Rattle.dc_machine.proofs.Bodies.{none_answers}
use Rattle.dc_machine.proofs.OrderFacts.{found_in, none_in}
use Rattle.dc_machine.proofs.posts.go_on.Goals as goal

pub returns-in_default-clause-step : goal.returns-in_default-clause-step
returns-in_default-clause-step g c polls =
    let s = state_of c.args.objects.now in
    let none = none_in c.deref.result.now s.mailboxes c.args.last.0 c.deref.ensures.value c.in_default.ensures.lookup.3 in
    none_answers s actor.Script action.Script _ (no_mailbox s c.args.last c.args.next (c.args.command.now, c.requires.next) none) polls

pub returns-in-Err-clause-step : goal.returns-in-Err-clause-step
returns-in-Err-clause-step g c polls =
    let s = state_of c.args.objects.now in
    let got = c.in-Some.ensures.lookup in
    let found = found_in c.deref.result.now s.mailboxes c.args.last.0 c.in-Some.mailbox.now c.deref.ensures.value got.3.0 got.1 in
    none_answers s actor.Script action.Script c.in-Err.why (c.in-Err.ensures.waits s c.args.next (c.args.command.now, c.requires.next) found) polls

pub post_next-requires-clause-next : goal.post_next-requires-clause-next
post_next-requires-clause-next g c κs within =
    let s = state_of c.args.objects.now in
    (c.args.command.now, subst (λ (o : Option (CoreNo × Order)). IsPosting s.script c.args.command.now (posting.After c.args.last o)) c.in-Some-next.is c.requires.next)

pub post_next-requires-clause-acked : goal.post_next-requires-clause-acked
post_next-requires-clause-acked g c κs within =
    let s = state_of c.args.objects.now in
    let got = c.in-Some.ensures.lookup in
    found_in c.deref.result.now s.mailboxes c.args.last.0 c.in-Some.mailbox.now c.deref.ensures.value got.3.0 got.1 ∙ ap Some c.in_default-await_ack.ensures.acked

pub done-requires-clause-next : goal.done-requires-clause-next
done-requires-clause-next g c κs within =
    let s = state_of c.args.objects.now in
    subst (λ (o : Option (CoreNo × Order)). IsPosting s.script c.args.command.now (posting.After c.args.last o)) c.in-None.is c.requires.next

pub done-requires-clause-acked : goal.done-requires-clause-acked
done-requires-clause-acked g c κs within =
    let s = state_of c.args.objects.now in
    let got = c.in-Some.ensures.lookup in
    found_in c.deref.result.now s.mailboxes c.args.last.0 c.in-Some.mailbox.now c.deref.ensures.value got.3.0 got.1 ∙ ap Some c.in_default-await_ack.ensures.acked
