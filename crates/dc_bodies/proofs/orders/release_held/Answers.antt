use Rattle.std.proofs.Common.{ap, ◌∙◌, sym, subst}
use Rattle.dc_base.specs.declared.entries.What.TheVariants as what
use Rattle.dc_base.specs.Orders.{block_at_rest}
use Rattle.dc_base.specs.Outcomes.{by_core}
use Rattle.dc_base.specs.States.{Block, time_at}
use Rattle.dc_objects.specs.Blocks.{IsTimed}
use Rattle.dc_bodies.proofs.OrderTurns.{release_is}
use Rattle.dc_bodies.proofs.Times.{timed_there}
use Rattle.dc_bodies.proofs.orders.release_held.Goals as goal

pub time-time-requires-after_bounds : goal.time-time-requires-after_bounds
time-time-requires-after_bounds g c κs within =
    timed_there c.clock-clock.result c.args.block.now (subst (λ n. IsTimed n c.args.block.now) (sym c.clock-clock.ensures) c.requires.block)

pub returns : goal.returns
returns g c =
    let x : Block = c.args.block.now in
    release_is c.args.c.0 c.args.core.now c.dismiss.new.self c.args.mailbox.now c.acked.new.mailbox c.acked.result c.acked.ensures.mailbox c.args.b.0 x c.release.new.self
    c.requires.order c.dismiss.ensures (c.release.ensures ∙ ap (λ n. block_at_rest n x) c.clock-clock.ensures)
    (c.acked.ensures.entry ∙ ap (λ n. by_core c.args.c.0 (what.Release c.args.b n)) (c.time-time.ensures ∙ ap (λ n. time_at n x.whereabouts) c.clock-clock.ensures))
