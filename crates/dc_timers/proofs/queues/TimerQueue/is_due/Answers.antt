use Rattle.dc_timers.proofs.Due.{is_due-none, is_due-some}
use Rattle.dc_timers.proofs.queues.TimerQueue.is_due.Goals as goal

pub returns-in-None : goal.returns-in-None
returns-in-None g c = is_due-none c.args.now (g.Self.TimerQueue.armed c.args.self.now) c.in-None.ensures

pub returns-in-Some : goal.returns-in-Some
returns-in-Some g c = is_due-some c.args.now (g.Self.TimerQueue.armed c.args.self.now) c.in-Some.deadline c.in-Some.ensures
