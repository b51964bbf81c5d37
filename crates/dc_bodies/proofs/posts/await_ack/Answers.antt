use Rattle.std.proofs.Common.{sym}
use Rattle.dc_bodies.proofs.CommandTurns.{no_ack}
use Rattle.dc_bodies.proofs.posts.await_ack.Goals as goal

pub returns-clause-waits : goal.returns-clause-waits
returns-clause-waits c = no_ack c.args.last c.args.mailbox.now (sym c.if-is_ack.ensures)
