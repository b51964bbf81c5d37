use Rattle.std.proofs.Common.{◌<◌, ap, ◌∙◌, length, refl, arith}
use Rattle.dc_base.specs.Firing.{wake}
use Rattle.dc_kcb.specs.Controls.{Agenda, control_of}
use Rattle.dc_calls.proofs.AgendaWakes.{woken-none, woken-then, woken-else, woken-end}
use Rattle.dc_calls.proofs.agendas.Agenda.wake.Goals.{then-waits, else-waits}
use Rattle.dc_calls.proofs.agendas.Agenda.wake.Goals as goal

pub loop-i-init : goal.loop-i-init
loop-i-init g c = record { size = refl; control = λ s. woken-none c.args.w (control_of s c.args.self.now) }

pub loop-i-preserved : goal.loop-i-preserved
loop-i-preserved g c =
    let here : c.loop-i.i < length c.loop-i.self.disps = omega (arith, c.count-i-end.ensures, c.loop-i.invariant.size) in
    elim c.if-waits.branch [
      | then-waits b ↦ record {
        size = ap (λ (a : Agenda). length a.disps) b.self-is ∙ b.wake_one.ensures.size ∙ c.loop-i.invariant.size;
        control = λ s. woken-then s c.loop-i.i c.args.w c.loop-i.self (wake c.args.w (control_of s c.args.self.now)) (c.loop-i.invariant.control s) here c.waits.result c.waits.ensures b.if-waits.true b.wake_one.new.self c.if-waits.self b.self-is (b.wake_one.ensures.control s);
      }
      | else-waits b ↦ record {
        size = ap (λ (a : Agenda). length a.disps) b.self-is ∙ c.loop-i.invariant.size;
        control = λ s. woken-else s c.loop-i.i c.args.w c.loop-i.self (wake c.args.w (control_of s c.args.self.now)) (c.loop-i.invariant.control s) here c.waits.result c.waits.ensures b.if-waits.false c.if-waits.self b.self-is;
      }
    ]

pub returns-clause-control : goal.returns-clause-control
returns-clause-control g c s = woken-end s c.loop-i.i c.args.w c.loop-i.self (wake c.args.w (control_of s c.args.self.now)) (c.loop-i.invariant.control s) (omega (arith, c.count-i-end.ensures, c.loop-i.invariant.size))
