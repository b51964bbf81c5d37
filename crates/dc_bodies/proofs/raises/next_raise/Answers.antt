use Rattle.std.proofs.Common.{◌<◌, ◌≤◌, sym, ◌∙◌, subst}
use Rattle.dc_bodies.proofs.RaiseTurns.{all_made, command_first, no_raise_line}
use Rattle.dc_bodies.proofs.raises.next_raise.Goals as goal

pub returns-in_default-clause-none : goal.returns-in_default-clause-none
returns-in_default-clause-none c = all_made c.args.script.now (sym c.next_raise.ensures ∙ c.in_default.is)

pub returns-then-place-first_unbegun-clause-none : goal.returns-then-place-first_unbegun-clause-none
returns-then-place-first_unbegun-clause-none c =
    command_first c.args.script.now c.in-Some.place (sym c.next_raise.ensures ∙ c.in-Some.is) (subst (λ n. n < c.in-Some.place) c.first_unbegun.ensures c.if-place-first_unbegun.true)

pub returns-in-None-clause-none : goal.returns-in-None-clause-none
returns-in-None-clause-none c =
    no_raise_line c.args.script.now c.in-Some.place (sym c.next_raise.ensures ∙ c.in-Some.is) (subst (λ n. c.in-Some.place ≤ n) c.first_unbegun.ensures c.if-place-first_unbegun.false)
    (sym c.raised_line.ensures ∙ c.in-None.is)
