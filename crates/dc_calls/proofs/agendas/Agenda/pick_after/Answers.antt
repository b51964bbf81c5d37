use Rattle.std.proofs.Common.{ap, sym, ◌∙◌}
use Rattle.dc_base.specs.ControlBlocks.{ControlBlock}
use Rattle.dc_base.specs.Policies.{pick}
use Rattle.dc_kcb.specs.Controls.{Agenda, control_of}
use Rattle.dc_calls.proofs.AgendaFires.{fire-not_due}
use Rattle.dc_calls.proofs.agendas.Agenda.pick_after.Goals as goal

pub returns-then-not-is_due : goal.returns-then-not-is_due
returns-then-not-is_due g c st =
    c.pick.ensures
    ∙ ap (λ (x : ControlBlock). pick g.R.ReadyList.policy x.dues x.ready)
    (sym (fire-not_due c.args.time (control_of st c.args.self.now) (g.T.TimerQueue.armed c.self.inside.timers) (ap (λ (a : Agenda). a.timers) c.self.view_is) (sym c.is_due.ensures ∙ c.if-not-is_due.true)))
