use Rattle.std.proofs.Common.{arith}
use Rattle.dc_bodies.proofs.CommandTurns.{post_is}
use Rattle.dc_bodies.proofs.posts.post_held.Goals as goal

pub put_order-requires : goal.put_order-requires
put_order-requires c = record { few = (let z = c.requires.1.next.0 in omega (arith, z)) }

pub returns : goal.returns
returns c =
    post_is c.args.script.now c.put_order.new.script c.put_order.new.mailbox c.args.core c.args.order c.put_order.result
    (record { entry = c.put_order.ensures.entry; script = c.put_order.ensures.script; mailbox = c.put_order.ensures.mailbox }) c.requires
