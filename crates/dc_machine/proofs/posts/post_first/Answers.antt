use Rattle.std.proofs.Common.{◌<◌, refl, sym, subst}
use Rattle.dc_base.specs.declared.actions.Action.TheVariants as action
use Rattle.dc_base.specs.declared.actions.Actor.TheVariants as actor
use Rattle.dc_objects.specs.States.{state_of}
use Rattle.dc_machine.proofs.Bodies.{did_answers}
use Rattle.dc_machine.proofs.Postings.{first_there}
use Rattle.dc_machine.proofs.posts.post_first.Goals as goal

pub index_mut-mailbox-requires : goal.index_mut-mailbox-requires
index_mut-mailbox-requires g c =
    subst (λ m. c.args.core.0 < m) (sym c.args.objects.now.mailboxes.ok.0) (first_there (state_of c.args.objects.now) c.requires.sound c.args.core c.args.order c.requires.first)

pub returns-clause-step : goal.returns-clause-step
returns-clause-step g c polls =
    let s = state_of c.args.objects.now in
    did_answers s actor.Script action.Script _ c.post_held.result (c.post_held.ensures s refl) polls
