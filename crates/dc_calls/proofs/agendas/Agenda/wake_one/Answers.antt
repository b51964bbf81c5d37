use Rattle.std.proofs.Common.{ap, ◌∙◌, map}
use Rattle.std.specs.Prelude.{slice_get}
use Rattle.dc_base.specs.declared.dispatchers.DispState.TheVariants as disp
use Rattle.dc_base.specs.ControlBlocks.{ControlBlock}
use Rattle.dc_base.specs.Slices.{ready_last}
use Rattle.dc_base.specs.Words.{lists}
use Rattle.dc_ready.specs.Entries.{dispatchers}
use Rattle.dc_block_sound.proofs.Elements.{set_here}
use Rattle.dc_kcb.specs.Controls.{state_of}
use Rattle.dc_calls.proofs.AgendaWrites.{no_store}
use Rattle.dc_calls.proofs.AgendaQueues.{waits-absent}
use Rattle.dc_calls.proofs.agendas.Agenda.wake_one.Goals as goal

pub set_state-requires-clause-absent : goal.set_state-requires-clause-absent
set_state-requires-clause-absent g c = waits-absent _ c.args.self.now c.self.view_is c.self.invariant c.args.d.0 c.requires.waits.0 c.requires.waits.1

pub ready_last-requires-clause-ready : goal.ready_last-requires-clause-ready
ready_last-requires-clause-ready g c =
    ap (λ (x : ControlBlock). slice_get x.states c.args.d.0) (c.set_state.ensures.control no_store)
    ∙ set_here (map state_of c.args.self.now.disps) c.args.d.0 (disp.Waits c.requires.waits.0) disp.Ready c.requires.waits.1

pub ready_last-requires-clause-absent : goal.ready_last-requires-clause-absent
ready_last-requires-clause-absent g c =
    ap (λ es. lists (dispatchers es) c.args.d.0) c.set_state.ensures.ready
    ∙ waits-absent _ c.args.self.now c.self.view_is c.self.invariant c.args.d.0 c.requires.waits.0 c.requires.waits.1

pub returns-clause-control : goal.returns-clause-control
returns-clause-control g c s = c.ready_last.ensures.control s ∙ ap (ready_last c.args.d.0) (c.set_state.ensures.control s)
