use Rattle.std.proofs.Common.{◌≡◌, ◌+◌, ◌≤◌, length}
use Rattle.dc_base.specs.Firing.{fire_all}
use Rattle.dc_kcb.specs.Controls.{Store, control_of}
use Rattle.dc_calls.proofs.AgendaFires.{AreNamed, after_fired}
use Rattle.dc_calls.proofs.agendas.Agenda.fire.Given as goal

abbrev pub invariant-loop-t : goal.invariant-loop-t
invariant-loop-t g l = record {
  named : AreNamed l.self.timers (length l.self.signals);
  room : l.count + length l.self.timers ≤ 64;
  size : length l.self.disps ≡ length l.initial.self.disps;
  control : (st : Store) → after_fired l.count (fire_all l.time (control_of st l.self)) ≡ fire_all l.time (control_of st l.initial.self);
}

abbrev pub decreases-loop-t : goal.decreases-loop-t
decreases-loop-t g l = length l.self.timers
