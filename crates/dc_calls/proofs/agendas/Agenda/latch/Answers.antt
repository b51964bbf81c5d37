use Rattle.dc_calls.proofs.AgendaWrites.{no_store}
use Rattle.dc_calls.proofs.AgendaWakes.{latch-put, latch-length}
use Rattle.dc_calls.proofs.agendas.Agenda.latch.Goals as goal

pub returns-clause-control : goal.returns-clause-control
returns-clause-control g c st = latch-put _ c.args.self.now c.self.view_is c.deref_mut.result.now c.deref_mut.ensures.value c.args.s.0 c.args.l c.index-deref_mut-s.result c.latch-how.new.self c.latch-how.ensures.after c.wake.new.self st (c.wake.ensures.control st)

pub returns-clause-signals : goal.returns-clause-signals
returns-clause-signals g c = latch-length _ c.args.self.now c.self.view_is c.deref_mut.result.now c.deref_mut.ensures.value c.args.s.0 c.args.l c.index-deref_mut-s.result c.latch-how.new.self c.latch-how.ensures.after c.wake.new.self (c.wake.ensures.control no_store)
