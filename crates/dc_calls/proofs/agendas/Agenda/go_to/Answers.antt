use Rattle.std.proofs.Common.{refl}
use Rattle.dc_base.specs.Effects.{Context}
use Rattle.dc_calls.proofs.AgendaWrites.{in_context, context-put}
use Rattle.dc_calls.proofs.AgendaQueues.{queue-context}
use Rattle.dc_calls.proofs.agendas.Agenda.go_to.Goals as goal

pub invariant_of-self : goal.invariant_of-self
invariant_of-self g c =
    let x : Context = record { regs = c.args.regs; place = c.args.place } in
    queue-context _ c.args.self.now c.self.view_is c.self.invariant c.args.d.0 c.deref_mut.result.now c.deref_mut.ensures.value (in_context x) (λ d. refl) (λ d. refl)

pub returns-clause-control : goal.returns-clause-control
returns-clause-control g c s = context-put _ c.args.self.now c.self.view_is c.deref_mut.result.now c.deref_mut.ensures.value s c.args.d.0 (record { regs = c.args.regs; place = c.args.place })
