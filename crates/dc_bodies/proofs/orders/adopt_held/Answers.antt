use Rattle.std.proofs.Common.{ap, ◌∙◌, ◌<◌, ◌^◌, refl, sym, subst}
use Rattle.dc_base.specs.States.{Block, Core, place_on}
use Rattle.dc_bodies.proofs.OrderTurns.{adopt_is, no_adoption}
use Rattle.dc_bodies.proofs.Times.{resting_there, goes_forward, time_below, time_is}
use Rattle.dc_bodies.proofs.orders.adopt_held.Goals as goal

pub time-requires-after_bounds : goal.time-requires-after_bounds
time-requires-after_bounds g c κs within = resting_there c.clock-clock.result c.args.block.now c.requires.block.resting

pub adopt-requires-clause-clock : goal.adopt-requires-clause-clock
adopt-requires-clause-clock g c κs within = subst (λ n. n < 2 ^ 63) (sym c.clock-clock.ensures) c.requires.block.clock

pub adopt-requires-clause-forward : goal.adopt-requires-clause-forward
adopt-requires-clause-forward g c κs within =
    let k : Core = c.args.core.now in
    let x : Block = c.args.block.now in
    let e = time_is c.adopted_time-time.result c.time.result c.clock-clock.result c.clocks.result k x c.adopted_time-time.ensures (c.clocks.ensures ∙ ap (λ t. t.clocks) c.settings.ensures) c.time.ensures c.clock-clock.ensures in
    goes_forward x k.settings.clocks k.clock c.adopted_time-time.result c.requires.block.resting e

pub adopt-requires-clause-time : goal.adopt-requires-clause-time
adopt-requires-clause-time g c κs within =
    let k : Core = c.args.core.now in
    let x : Block = c.args.block.now in
    let e = time_is c.adopted_time-time.result c.time.result c.clock-clock.result c.clocks.result k x c.adopted_time-time.ensures (c.clocks.ensures ∙ ap (λ t. t.clocks) c.settings.ensures) c.time.ensures c.clock-clock.ensures in
    time_below x k.settings.clocks k.clock c.adopted_time-time.result c.requires.block.resting e c.requires.block.kept c.requires.block.clock

pub returns-in_default-clause-refused : goal.returns-in_default-clause-refused
returns-in_default-clause-refused g c =
    let k : Core = c.args.core.now in
    record {
      turn = no_adoption c.args.c.0 c.args.b.0 k c.args.mailbox.now c.args.block.now c.args.parked c.requires.order (sym c.in_default.ensures);
      core = refl;
      mailbox = refl;
      block = refl;
    }

pub returns-clause-turn : goal.returns-clause-turn
returns-clause-turn g c =
    let k : Core = c.args.core.now in
    let x : Block = c.args.block.now in
    let time = c.adopted_time-time.result in
    let e = time_is time c.time.result c.clock-clock.result c.clocks.result k x c.adopted_time-time.ensures (c.clocks.ensures ∙ ap (λ t. t.clocks) c.settings.ensures) c.time.ensures c.clock-clock.ensures in
    adopt_is c.args.c.0 k c.admit.new.self c.args.mailbox.now c.acked.new.mailbox c.acked.result c.acked.ensures.mailbox c.args.b.0 c.args.parked c.in-Some.v time x c.adopt.new.self
    c.requires.order (sym c.in-Some.ensures) e c.admit.ensures (c.adopt.ensures ∙ ap (λ n. record x { whereabouts = place_on c.args.c.0 n time c.in-Some.v }) c.clock-clock.ensures) c.acked.ensures.entry
