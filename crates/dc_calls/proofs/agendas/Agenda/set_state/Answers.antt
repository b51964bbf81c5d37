use Rattle.std.proofs.Common.{refl}
use Rattle.dc_calls.proofs.AgendaWrites.{in_state, state-put}
use Rattle.dc_calls.proofs.AgendaQueues.{queue-state}
use Rattle.dc_calls.proofs.agendas.Agenda.set_state.Goals as goal

pub invariant_of-self : goal.invariant_of-self
invariant_of-self g c = queue-state _ c.args.self.now c.self.view_is c.self.invariant c.args.d.0 c.deref_mut.result.now c.deref_mut.ensures.value (in_state c.args.state) c.requires.absent (λ x. refl)

pub returns-clause-control : goal.returns-clause-control
returns-clause-control g c s = state-put _ c.args.self.now c.self.view_is c.deref_mut.result.now c.deref_mut.ensures.value s c.args.d.0 c.args.state
