use Rattle.std.proofs.Common.{sym, ap, ◌∙◌}
use Rattle.dc_base.specs.Cores.{core_step}
use Rattle.dc_objects.specs.States.{state_of}
use Rattle.dc_machine.specs.Answers.{polls_then}
use Rattle.dc_machine.proofs.ActionTurns.{core_leaves}
use Rattle.dc_machine.proofs.turns.step.Goals as goal

pub returns-in-Core-clause-polls : goal.returns-in-Core-clause-polls
returns-in-Core-clause-polls g c =
    let s = state_of c.args.objects.now in
    let p = c.args.polls.now in
    let a = c.args.action.now in
    core_leaves s (state_of c.core_turn.new.objects) c.in-Core.c a p c.core_turn.result c.core_turn.ensures.step c.core_turn.ensures.quiet
    ∙ ap (λ w. polls_then a p (core_step s p w a)) (sym c.in-Core.is)
