use Rattle.std.proofs.Common.{arith}
use Rattle.dc_ready.proofs.Listed.{ready-more, room}
use Rattle.dc_ready.proofs.fifos.FifoReadyList.add.Goals as goal

pub push-requires : goal.push-requires
push-requires c = (omega arith, room c.self.inside.entries.items (c.args.d, c.args.due) c.args.self.now c.self.view_is c.self.invariant c.requires.below c.requires.absent)

pub invariant_of-self : goal.invariant_of-self
invariant_of-self c = rw c.push.ensures.items (ready-more c.self.inside.entries.items (c.args.d, c.args.due) c.args.self.now c.self.view_is c.self.invariant c.requires.below c.requires.absent)
