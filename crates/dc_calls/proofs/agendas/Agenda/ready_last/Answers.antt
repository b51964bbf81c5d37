use Rattle.dc_calls.proofs.AgendaQueues.{queue-push}
use Rattle.dc_calls.proofs.agendas.Agenda.ready_last.Goals as goal

pub invariant_of-self : goal.invariant_of-self
invariant_of-self g c = queue-push _ c.args.self.now c.self.view_is c.self.invariant c.args.d.0 c.deref.result.now (g.R.ReadyList.listed c.add.new.self) c.deref.ensures.0 c.deref.ensures.1 c.requires.absent c.requires.ready c.add.ensures
