use Rattle.std.proofs.Common.{◌<◌, sym, ap, ◌∙◌, subst}
use Rattle.std.specs.Prelude.{slice_get, length}
use Rattle.dc_base.specs.declared.actions.Action.TheVariants as action
use Rattle.dc_base.specs.declared.entries.Reason.TheVariants as reason
use Rattle.dc_base.specs.Outcomes.{has, if_here}
use Rattle.dc_base.specs.Turns.{look_block, outcome}
use Rattle.dc_base.specs.Wakes.{wake_in, wake_turn}
use Rattle.dc_objects.specs.States.{state_of}
use Rattle.dc_machine.proofs.Refusals.{refuses, at_index}
use Rattle.dc_machine.proofs.Sounds.{here, shape, waits_there, held_as, waits_so}
use Rattle.dc_machine.proofs.Stops.{stops, core_answers, budget_left}
use Rattle.dc_bodies.proofs.WakeTurns.{not_here, is_here}
use Rattle.dc_bodies.proofs.Wakings.{not_waiting, waiting, still_waits, woken}
use Rattle.dc_machine.proofs.wakes.wake_turn.Goals as goal

pub returns-in-Some-clause-step : goal.returns-in-Some-clause-step
returns-in-Some-clause-step g c =
    let s = state_of c.args.objects.now in
    let k = c.index-core.result.now in
    let t = if_here k.share c.args.b.0 (look_block c.args.b.0 (wake_in c.args.c.0 k c.args.b.0 c.args.d.0)) in
    core_answers s s c.args.c (action.Wake c.args.b c.args.d) k c.in-Some.stop (at_index s.cores c.args.c.0 k c.requires.core c.index-core.ensures)
    (stops s k t c.in-Some.stop (sym c.stopped.ensures ∙ c.in-Some.is))

pub returns-then-not-contains-clause-step : goal.returns-then-not-contains-clause-step
returns-then-not-contains-clause-step g c =
    let s = state_of c.args.objects.now in
    let k = c.index-core.result.now in
    core_answers s s c.args.c (action.Wake c.args.b c.args.d) k _ (at_index s.cores c.args.c.0 k c.requires.core c.index-core.ensures)
    (refuses s (reason.NotHere c.args.b) (outcome s (wake_turn c.args.c.0 k c.args.b.0 c.args.d.0))
    (not_here s c.args.c.0 k c.args.b.0 c.args.d.0 (sym c.stopped.ensures ∙ c.in_default.is)
    (sym (ap (λ l. has l c.args.b.0) c.share.ensures) ∙ sym c.contains.ensures.value ∙ c.if-not-contains.true)))

pub channel_wait-requires-after_bounds : goal.channel_wait-requires-after_bounds
channel_wait-requires-after_bounds g c κs within =
    let s = state_of c.args.objects.now in
    shape s c.args.b.0 c.index.result.now c.requires.sound (at_index s.blocks c.args.b.0 c.index.result.now c.requires.block c.index.ensures)

pub returns-in_default-channel_wait-clause-step : goal.returns-in_default-channel_wait-clause-step
returns-in_default-channel_wait-clause-step g c =
    let s = state_of c.args.objects.now in
    let k = c.index-core.result.now in
    let x = c.index.result.now in
    core_answers s s c.args.c (action.Wake c.args.b c.args.d) k _ (at_index s.cores c.args.c.0 k c.requires.core c.index-core.ensures)
    (refuses s reason.NotWaiting (outcome s (wake_turn c.args.c.0 k c.args.b.0 c.args.d.0))
    (is_here s c.args.c.0 k c.args.b.0 c.args.d.0 (sym c.stopped.ensures ∙ c.in_default.is) x
    (sym (ap (λ l. has l c.args.b.0) c.share.ensures) ∙ sym c.contains.ensures.value ∙ c.if-not-contains.false)
    (at_index s.blocks c.args.b.0 x c.requires.block c.index.ensures)
    ∙ not_waiting s c.args.c.0 k c.args.b.0 c.args.d.0 x (slice_get x.control.states c.args.d.0) (sym c.channel_wait.ensures ∙ c.in_default-channel_wait.is)))

pub index-requires-2 : goal.index-requires-2
index-requires-2 g c =
    let s = state_of c.args.objects.now in
    let x = c.index.result.now in
    subst (λ m. c.channel_of.result.0 < m) (sym c.args.objects.now.channels.ok.0) (subst (λ (n : _). n.0 < length s.channels) (sym c.channel_of.ensures)
    (waits_there s c.args.b.0 x c.args.d.0 c.in-Some-channel_wait.wait c.requires.sound (at_index s.blocks c.args.b.0 x c.requires.block c.index.ensures) (sym c.channel_wait.ensures ∙ c.in-Some-channel_wait.is)))

pub returns-then-not-goes_on-clause-step : goal.returns-then-not-goes_on-clause-step
returns-then-not-goes_on-clause-step g c =
    let s = state_of c.args.objects.now in
    let k = c.index-core.result.now in
    let x = c.index.result.now in
    let w = c.in-Some-channel_wait.wait in
    let r = c.index-2.result.now in
    core_answers s s c.args.c (action.Wake c.args.b c.args.d) k _ (at_index s.cores c.args.c.0 k c.requires.core c.index-core.ensures)
    (refuses s reason.StillWaits (outcome s (wake_turn c.args.c.0 k c.args.b.0 c.args.d.0))
    (is_here s c.args.c.0 k c.args.b.0 c.args.d.0 (sym c.stopped.ensures ∙ c.in_default.is) x
    (sym (ap (λ l. has l c.args.b.0) c.share.ensures) ∙ sym c.contains.ensures.value ∙ c.if-not-contains.false)
    (at_index s.blocks c.args.b.0 x c.requires.block c.index.ensures)
    ∙ waiting s c.args.c.0 k c.args.b.0 c.args.d.0 x (slice_get x.control.states c.args.d.0) w (sym c.channel_wait.ensures ∙ c.in-Some-channel_wait.is)
    ∙ ap (woken c.args.c.0 k c.args.b.0 c.args.d.0 x w) (ap (λ n. slice_get s.channels n.0) (sym c.channel_of.ensures) ∙ at_index s.channels c.channel_of.result.0 r
    (subst (λ (n : _). n.0 < length s.channels) (sym c.channel_of.ensures) (waits_there s c.args.b.0 x c.args.d.0 w c.requires.sound (at_index s.blocks c.args.b.0 x c.requires.block c.index.ensures) (sym c.channel_wait.ensures ∙ c.in-Some-channel_wait.is)))
    c.index-2.ensures)
    ∙ still_waits s c.args.c.0 k c.args.b.0 c.args.d.0 x w r (sym c.goes_on.ensures ∙ c.if-not-goes_on.true)))

pub wake-requires-clause-core : goal.wake-requires-clause-core
wake-requires-clause-core g c κs within =
    let s = state_of c.args.objects.now in
    let k = c.index-core.result.now in
    let there = at_index s.cores c.args.c.0 k c.requires.core c.index-core.ensures in
    (k, there, budget_left k (sym c.stopped.ensures ∙ c.in_default.is) (c.requires.sound.counted.used c.args.c.0 k there))

pub wake-requires-clause-block : goal.wake-requires-clause-block
wake-requires-clause-block g c κs within =
    let s = state_of c.args.objects.now in
    let k = c.index-core.result.now in
    let x = c.index.result.now in
    let there = at_index s.blocks c.args.b.0 x c.requires.block c.index.ensures in
    let e = sym c.channel_wait.ensures ∙ c.in-Some-channel_wait.is in
    let h = here s c.args.c.0 k c.args.b.0 c.requires.sound (at_index s.cores c.args.c.0 k c.requires.core c.index-core.ensures)
    (sym (ap (λ l. has l c.args.b.0) c.share.ensures) ∙ sym c.contains.ensures.value ∙ c.if-not-contains.false) in
    (x, there, held_as h.block x (sym h.there ∙ there) h.held, waits_so e)

pub returns-clause-step : goal.returns-clause-step
returns-clause-step g c =
    let s = state_of c.args.objects.now in
    let k = c.index-core.result.now in
    let x = c.index.result.now in
    let w = c.in-Some-channel_wait.wait in
    let r = c.index-2.result.now in
    let block = at_index s.blocks c.args.b.0 x c.requires.block c.index.ensures in
    let waits = sym c.channel_wait.ensures ∙ c.in-Some-channel_wait.is in
    c.wake.ensures.step k x w r
    (record {
      acts = sym c.stopped.ensures ∙ c.in_default.is;
      here = sym (ap (λ l. has l c.args.b.0) c.share.ensures) ∙ sym c.contains.ensures.value ∙ c.if-not-contains.false;
      waits = waits;
      on = sym c.goes_on.ensures ∙ c.if-not-goes_on.false;
    })
    (record {
      core = at_index s.cores c.args.c.0 k c.requires.core c.index-core.ensures;
      block = block;
      channel = ap (λ n. slice_get s.channels n.0) (sym c.channel_of.ensures) ∙ at_index s.channels c.channel_of.result.0 r
          (subst (λ (n : _). n.0 < length s.channels) (sym c.channel_of.ensures) (waits_there s c.args.b.0 x c.args.d.0 w c.requires.sound block waits)) c.index-2.ensures;
    })
