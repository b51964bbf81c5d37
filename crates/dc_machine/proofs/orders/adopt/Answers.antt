use Rattle.std.proofs.Common.{arith, subst, sym}
use Rattle.std.proofs.lemmas.Option.{slice_get_within}
use Rattle.dc_base.specs.declared.actions.Action.TheVariants as action
use Rattle.dc_base.specs.declared.actions.Actor.TheVariants as actor
use Rattle.dc_base.specs.declared.commands.Order.TheVariants as order
use Rattle.dc_base.specs.Cores.{core_step}
use Rattle.dc_base.specs.States.{State, Block}
use Rattle.dc_base.specs.States.{order as ordered}
use Rattle.dc_objects.specs.States.{state_of}
use Rattle.dc_bodies.specs.Ordered.{CanAdopt}
use Rattle.dc_bodies.specs.declared.stops.Stepped.TheVariants as stepped
use Rattle.dc_machine.specs.Answers.{Answers}
use Rattle.dc_machine.proofs.Bodies.{did_answers, none_answers}
use Rattle.dc_machine.proofs.OrderFacts.{adoptable, put_back, read_at, read_is, stands}
use Rattle.dc_machine.proofs.orders.adopt.Goals as goal

pub index_mut-block-requires : goal.index_mut-block-requires
index_mut-block-requires g c =
    let s = state_of c.args.objects.now in
    let k = c.index_mut-core.result.now in
    let r = adoptable s c.requires.sound c.args.c.0 k (read_at s.cores c.args.c.0 k c.requires.core c.index_mut-core.ensures.value) c.args.b c.args.parked c.requires.order in
    let h = slice_get_within s.blocks c.args.b.0 r.block r.found in
    omega (arith, h, c.args.objects.now.blocks.ok.0)

pub adopt_held-requires-clause-order : goal.adopt_held-requires-clause-order
adopt_held-requires-clause-order g c κs within =
    let s = state_of c.args.objects.now in
    read_is s.mailboxes c.args.c.0 c.index_mut-mailbox.result.now (ordered (order.Adopt c.args.b c.args.parked)) c.requires.order c.index_mut-mailbox.ensures.value

pub adopt_held-requires-clause-block : goal.adopt_held-requires-clause-block
adopt_held-requires-clause-block g c κs within =
    let s = state_of c.args.objects.now in
    let k = c.index_mut-core.result.now in
    let r = adoptable s c.requires.sound c.args.c.0 k (read_at s.cores c.args.c.0 k c.requires.core c.index_mut-core.ensures.value) c.args.b c.args.parked c.requires.order in
    subst (λ (x : Block). CanAdopt k c.args.b.0 c.args.parked x) (sym (read_is s.blocks c.args.b.0 c.index_mut-block.result.now r.block r.found c.index_mut-block.ensures.value)) r.can

pub returns-in-Ok-clause-step : goal.returns-in-Ok-clause-step
returns-in-Ok-clause-step g c =
    let s = state_of c.args.objects.now in
    let k = c.index_mut-core.result.now in
    let m = c.index_mut-mailbox.result.now in
    let x = c.index_mut-block.result.now in
    let r = adoptable s c.requires.sound c.args.c.0 k (read_at s.cores c.args.c.0 k c.requires.core c.index_mut-core.ensures.value) c.args.b c.args.parked c.requires.order in
    let at = stands s c.args.c k m c.requires.core c.index_mut-core.ensures.value c.index_mut-mailbox.ensures.value (order.Adopt c.args.b c.args.parked) c.requires.order in
    did_answers s (actor.Core c.args.c) action.Order _ c.in-Ok.entry
    (c.in-Ok.ensures.turn s at (read_at s.blocks c.args.b.0 x (slice_get_within s.blocks c.args.b.0 r.block r.found) c.index_mut-block.ensures.value)) 0

pub returns-in-Err-clause-step : goal.returns-in-Err-clause-step
returns-in-Err-clause-step g c =
    let s = state_of c.args.objects.now in
    let k = c.index_mut-core.result.now in
    let m = c.index_mut-mailbox.result.now in
    let x = c.index_mut-block.result.now in
    let r = adoptable s c.requires.sound c.args.c.0 k (read_at s.cores c.args.c.0 k c.requires.core c.index_mut-core.ensures.value) c.args.b c.args.parked c.requires.order in
    let at = stands s c.args.c k m c.requires.core c.index_mut-core.ensures.value c.index_mut-mailbox.ensures.value (order.Adopt c.args.b c.args.parked) c.requires.order in
    let there = read_at s.blocks c.args.b.0 x (slice_get_within s.blocks c.args.b.0 r.block r.found) c.index_mut-block.ensures.value in
    let no = c.in-Err.ensures.refused in
    subst (λ (t : State). Answers (stepped.NotEnabled c.in-Err.why) s t (core_step s 0 (actor.Core c.args.c) action.Order))
    (sym (put_back s c.args.c.0 k c.adopt_held.new.core m c.adopt_held.new.mailbox c.args.b.0 x c.adopt_held.new.block at there no.core no.mailbox no.block))
    (none_answers s (actor.Core c.args.c) action.Order c.in-Err.why (no.turn s at there) 0)
