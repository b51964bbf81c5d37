use Rattle.std.proofs.Common.{ap, ◌∙◌}
use Rattle.dc_base.specs.declared.entries.What.TheVariants as what
use Rattle.dc_base.specs.Outcomes.{by_core}
use Rattle.dc_bodies.proofs.OrderTurns.{start_is}
use Rattle.dc_bodies.proofs.orders.start_held.Goals as goal

pub returns : goal.returns
returns c =
    start_is c.args.c.0 c.args.core.now c.set_version.new.self c.args.mailbox.now c.acked.new.mailbox c.acked.result c.acked.ensures.mailbox c.args.v c.requires.order c.set_version.ensures
    (c.acked.ensures.entry ∙ ap (λ n. by_core c.args.c.0 (what.Start c.args.v n)) c.clock-clock.ensures)
