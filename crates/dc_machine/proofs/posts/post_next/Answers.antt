use Rattle.std.proofs.Common.{◌≡◌, ℕ, Some, refl, sym, ◌∙◌, subst, arith}
use Rattle.std.specs.Prelude.{slice_get}
use Rattle.std.proofs.lemmas.Option.{slice_get_within}
use Rattle.dc_base.specs.declared.actions.Action.TheVariants as action
use Rattle.dc_base.specs.declared.actions.Actor.TheVariants as actor
use Rattle.dc_base.specs.States.{ack}
use Rattle.dc_block_sound.proofs.Elements.{is_same}
use Rattle.dc_bodies.specs.declared.posts.Posting.TheVariants as posting
use Rattle.dc_bodies.specs.Postings.{ComesTo}
use Rattle.dc_objects.specs.States.{state_of}
use Rattle.dc_machine.proofs.Bodies.{did_answers}
use Rattle.dc_machine.proofs.OrderFacts.{read_at, read_is}
use Rattle.dc_machine.proofs.Postings.{next_there}
use Rattle.dc_machine.proofs.posts.post_next.Goals as goal

pub post_same-requires-clause-next : goal.post_same-requires-clause-next
post_same-requires-clause-next g c κs within =
    let s = state_of c.args.objects.now in
    let same = is_same c.args.core.0 c.args.last.0 (sym c.eq.ensures ∙ c.if-eq.true) in
    subst (λ (n : ℕ). ComesTo s.script (posting.After (record { 0 = n }) (Some (c.args.core, c.args.order)))) (sym same) c.requires.next

pub post_same-requires-clause-acked : goal.post_same-requires-clause-acked
post_same-requires-clause-acked g c κs within =
    let s = state_of c.args.objects.now in
    let same = is_same c.args.core.0 c.args.last.0 (sym c.eq.ensures ∙ c.if-eq.true) in
    subst (λ (n : ℕ). slice_get s.mailboxes n ≡ Some ack) (sym same) c.requires.acked

pub index-requires : goal.index-requires
index-requires g c =
    let s = state_of c.args.objects.now in
    let h = slice_get_within s.mailboxes c.args.last.0 ack c.requires.acked in
    omega (arith, h, c.args.objects.now.mailboxes.ok.0)

pub index-requires-2 : goal.index-requires-2
index-requires-2 g c =
    let s = state_of c.args.objects.now in
    let h = next_there s c.requires.sound c.args.last c.args.core c.args.order c.requires.next c.requires.acked in
    omega (arith, h, c.args.objects.now.mailboxes.ok.0)

pub post_next_held-entry-requires-clause-acked : goal.post_next_held-entry-requires-clause-acked
post_next_held-entry-requires-clause-acked g c =
    let s = state_of c.args.objects.now in
    read_is s.mailboxes c.args.last.0 c.index.result.now ack c.requires.acked c.index.ensures

pub index_mut-requires : goal.index_mut-requires
index_mut-requires g c =
    let s = state_of c.args.objects.now in
    let h = slice_get_within s.mailboxes c.args.last.0 ack c.requires.acked in
    omega (arith, h, c.args.objects.now.mailboxes.ok.0)

pub index_mut-requires-2 : goal.index_mut-requires-2
index_mut-requires-2 g c =
    let s = state_of c.args.objects.now in
    let h = next_there s c.requires.sound c.args.last c.args.core c.args.order c.requires.next c.requires.acked in
    omega (arith, h, c.args.objects.now.mailboxes.ok.0)

pub returns-clause-step : goal.returns-clause-step
returns-clause-step g c polls =
    let s = state_of c.args.objects.now in
    let last = slice_get_within s.mailboxes c.args.last.0 ack c.requires.acked in
    let there = read_at s.mailboxes c.args.last.0 c.index.result.now last c.index.ensures in
    did_answers s actor.Script action.Script _ c.post_next_held-entry.result (c.post_next_held-entry.ensures s refl there) polls
