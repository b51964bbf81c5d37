use Rattle.std.proofs.Common.{◌<◌, ◌^◌, ap, sym, refl, subst, length, map, arith}
use Rattle.std.specs.Prelude.{slice_index_or}
use Rattle.dc_kcb.specs.Controls.{Agenda, due_of}
use Rattle.dc_base.specs.Words.{Each}
use Rattle.dc_calls.proofs.AgendaWrites.{later_by, blank, due-put, due-below, no_store}
use Rattle.dc_calls.proofs.AgendaQueues.{queue-due}
use Rattle.dc_base.specs.ControlBlocks.{ControlBlock}
use Rattle.dc_calls.proofs.agendas.Agenda.add_period.Goals as goal

pub overflow_add-deref_mut : goal.overflow_add-deref_mut
overflow_add-deref_mut g c =
    let ds = c.self.inside.disps.items in
    let lt : c.args.d.0 < length ds = subst (λ (a : Agenda). c.args.d.0 < length a.disps) (sym c.self.view_is) c.requires.there in
    let within : Each (map due_of ds) (λ d due. due < 2 ^ 63) = subst (λ (a : Agenda). Each (map due_of a.disps) (λ d due. due < 2 ^ 63)) (sym c.self.view_is) c.requires.within in
    let below : (slice_index_or c.deref_mut.result.now c.args.d.0 blank).due < 2 ^ 63 = due-below ds c.args.d.0 c.deref_mut.result.now c.deref_mut.ensures.value lt within in
    omega arith

pub invariant_of-self : goal.invariant_of-self
invariant_of-self g c = queue-due _ c.args.self.now c.self.view_is c.self.invariant c.args.d.0 c.deref_mut.result.now c.deref_mut.ensures.value (later_by (slice_index_or c.deref.result.now c.args.d.0 blank).period) c.requires.absent (λ x. refl)

pub returns-clause-control : goal.returns-clause-control
returns-clause-control g c s = due-put _ c.args.self.now c.self.view_is c.deref_mut.result.now c.deref_mut.ensures.value s c.args.d.0 c.deref.result.now c.deref.ensures.0

pub returns-clause-states : goal.returns-clause-states
returns-clause-states g c = ap (λ (x : ControlBlock). x.states) (due-put _ c.args.self.now c.self.view_is c.deref_mut.result.now c.deref_mut.ensures.value no_store c.args.d.0 c.deref.result.now c.deref.ensures.0)
