use Rattle.std.proofs.Common.{◌≡◌, length}
use Rattle.dc_base.specs.Firing.{wake}
use Rattle.dc_kcb.specs.Controls.{Store, control_of}
use Rattle.dc_calls.proofs.AgendaWakes.{rest_woken}
use Rattle.dc_calls.proofs.agendas.Agenda.wake.Given as goal

abbrev pub invariant-loop-i : goal.invariant-loop-i
invariant-loop-i g l = record {
  size : length l.self.disps ≡ length l.initial.self.disps;
  control : (s : Store) → rest_woken l.i l.w (control_of s l.self) ≡ wake l.w (control_of s l.initial.self);
}
