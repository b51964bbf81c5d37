use Rattle.dc_calls.proofs.AgendaQueues.{queue-without, control-without}
use Rattle.dc_calls.proofs.agendas.Agenda.take_out.Goals as goal

pub invariant_of-self : goal.invariant_of-self
invariant_of-self g c = queue-without _ c.args.self.now c.self.view_is c.self.invariant c.args.d.0 (g.R.ReadyList.listed c.remove.new.self) c.remove.ensures.rest

pub returns-clause-control : goal.returns-clause-control
returns-clause-control g c s = control-without _ c.args.self.now c.self.view_is c.self.invariant c.args.d.0 (g.R.ReadyList.listed c.remove.new.self) c.remove.ensures.rest s
