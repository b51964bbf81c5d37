use Rattle.dc_kernel.proofs.both.BothDriver.runnable.Goals as goal

pub returns-in-First : goal.returns-in-First
returns-in-First g c = rw c.in-First.is c.runnable.ensures

pub returns-in-Second : goal.returns-in-Second
returns-in-Second g c = rw c.in-Second.is c.runnable-in-Second.ensures
