use Rattle.std.proofs.Common.{arith, subst, sym}
use Rattle.std.proofs.lemmas.Option.{slice_get_within}
use Rattle.dc_base.specs.declared.actions.Action.TheVariants as action
use Rattle.dc_base.specs.declared.actions.Actor.TheVariants as actor
use Rattle.dc_base.specs.declared.commands.Order.TheVariants as order
use Rattle.dc_base.specs.States.{Block}
use Rattle.dc_base.specs.States.{order as ordered}
use Rattle.dc_objects.specs.Blocks.{IsTimed}
use Rattle.dc_objects.specs.States.{state_of}
use Rattle.dc_machine.proofs.Bodies.{did_answers}
use Rattle.dc_machine.proofs.OrderFacts.{read_at, read_is, releasable, stands}
use Rattle.dc_machine.proofs.orders.release.Goals as goal

pub index_mut-block-requires : goal.index_mut-block-requires
index_mut-block-requires g c =
    let s = state_of c.args.objects.now in
    let k = c.index_mut-core.result.now in
    let r = releasable s c.requires.sound c.args.c.0 k (read_at s.cores c.args.c.0 k c.requires.core c.index_mut-core.ensures.value) c.args.b c.requires.order in
    let h = slice_get_within s.blocks c.args.b.0 r.block r.found in
    omega (arith, h, c.args.objects.now.blocks.ok.0)

pub release_held-requires-clause-order : goal.release_held-requires-clause-order
release_held-requires-clause-order g c κs within =
    let s = state_of c.args.objects.now in
    read_is s.mailboxes c.args.c.0 c.index_mut-mailbox.result.now (ordered (order.Release c.args.b)) c.requires.order c.index_mut-mailbox.ensures.value

pub release_held-requires-clause-block : goal.release_held-requires-clause-block
release_held-requires-clause-block g c κs within =
    let s = state_of c.args.objects.now in
    let k = c.index_mut-core.result.now in
    let r = releasable s c.requires.sound c.args.c.0 k (read_at s.cores c.args.c.0 k c.requires.core c.index_mut-core.ensures.value) c.args.b c.requires.order in
    subst (λ (x : Block). IsTimed k.clock x) (sym (read_is s.blocks c.args.b.0 c.index_mut-block.result.now r.block r.found c.index_mut-block.ensures.value)) r.timed

pub release_held-requires-clause-share : goal.release_held-requires-clause-share
release_held-requires-clause-share g c κs within =
    let s = state_of c.args.objects.now in
    let k = c.index_mut-core.result.now in
    (releasable s c.requires.sound c.args.c.0 k (read_at s.cores c.args.c.0 k c.requires.core c.index_mut-core.ensures.value) c.args.b c.requires.order).there

pub returns-clause-step : goal.returns-clause-step
returns-clause-step g c =
    let s = state_of c.args.objects.now in
    let k = c.index_mut-core.result.now in
    let m = c.index_mut-mailbox.result.now in
    let x = c.index_mut-block.result.now in
    let r = releasable s c.requires.sound c.args.c.0 k (read_at s.cores c.args.c.0 k c.requires.core c.index_mut-core.ensures.value) c.args.b c.requires.order in
    let at = stands s c.args.c k m c.requires.core c.index_mut-core.ensures.value c.index_mut-mailbox.ensures.value (order.Release c.args.b) c.requires.order in
    did_answers s (actor.Core c.args.c) action.Order _ c.release_held.result
    (c.release_held.ensures s at (read_at s.blocks c.args.b.0 x (slice_get_within s.blocks c.args.b.0 r.block r.found) c.index_mut-block.ensures.value)) 0
