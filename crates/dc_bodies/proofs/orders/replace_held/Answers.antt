use Rattle.dc_bodies.specs.Handing.{seen_at}
use Rattle.dc_bodies.proofs.OrderTurns.{replace_is}
use Rattle.dc_bodies.proofs.orders.replace_held.Goals as goal

pub returns-clause-turn : goal.returns-clause-turn
returns-clause-turn g c =
    replace_is c.args.c.0 c.args.core.now c.set_version.new.self c.args.mailbox.now c.acked.new.mailbox c.acked.result c.acked.ensures.mailbox c.args.v
    (seen_at (g.P.Places.at c.args.places.now) c.args.blocks.now.items) (seen_at (g.P.Places.at c.args.places.now) c.replace_all.new.blocks.items) c.requires.order c.replace_all.ensures.blocks c.set_version.ensures c.acked.ensures.entry
