use Rattle.dc_bodies.proofs.CommandTurns.{same_post_is}
use Rattle.dc_bodies.proofs.posts.post_same_held.Goals as goal

pub returns : goal.returns
returns c =
    same_post_is c.args.script.now c.put_order.new.script c.put_order.new.mailbox c.args.core c.args.order c.put_order.result
    (record { entry = c.put_order.ensures.entry; script = c.put_order.ensures.script; mailbox = c.put_order.ensures.mailbox })
    c.requires.next c.args.both.now c.requires.acked
