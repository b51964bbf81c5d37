use Rattle.std.proofs.Common.{ap, ◌∙◌, length}
use Rattle.dc_base.specs.declared.entries.What.TheVariants as what
use Rattle.dc_base.specs.Outcomes.{by_core}
use Rattle.dc_bodies.specs.Handing.{seen_at}
use Rattle.dc_bodies.proofs.OrderTurns.{stop_is}
use Rattle.dc_bodies.proofs.orders.stop_held.Goals as goal

pub returns-clause-turn : goal.returns-clause-turn
returns-clause-turn g c =
    stop_is c.args.c.0 c.args.core.now c.stop.new.self c.args.mailbox.now c.acked.new.mailbox c.acked.result c.acked.ensures.mailbox
    (seen_at (g.P.Places.at c.args.places.now) c.args.blocks.now.items) (seen_at (g.P.Places.at c.args.places.now) c.release_all.new.blocks.items) c.requires.order c.release_all.ensures.blocks c.stop.ensures
    (c.acked.ensures.entry ∙ ap (λ n. by_core c.args.c.0 (what.Stop n)) (c.len-released.ensures.value ∙ ap length c.share.ensures))
