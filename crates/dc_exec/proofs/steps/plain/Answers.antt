use Rattle.dc_exec.proofs.Storing.{store_makes}
use Rattle.dc_exec.proofs.steps.plain.Goals as goal

pub returns-in-St-clause-went : goal.returns-in-St-clause-went
returns-in-St-clause-went g c = rw c.in-St.is (store_makes c.store.result c.args.d.now c.store.new.d (g.M.Memory.words c.args.mem.now) (g.M.Memory.words c.store.new.mem) c.args.time c.in-St.a c.in-St.b c.in-St.imm c.store.ensures.store)
