use Rattle.std.proofs.Common.{sym, ap, ◌∙◌}
use Rattle.std.specs.Prelude.{slice_get}
use Rattle.dc_bodies.proofs.CommandTurns.{is_over, raise_stands, past_lines}
use Rattle.dc_bodies.proofs.commands.next_command.Goals as goal

pub returns-then-is_over-clause-none : goal.returns-then-is_over-clause-none
returns-then-is_over-clause-none c = is_over c.args.script.now (sym c.if-is_over.ensures)

pub returns-in-Some-clause-none : goal.returns-in-Some-clause-none
returns-in-Some-clause-none c = raise_stands c.args.script.now c.in-Some.line (sym c.if-is_over.ensures) (sym c.raise_above.ensures ∙ c.in-Some.is)

pub returns-in-Some-line-clause-line : goal.returns-in-Some-line-clause-line
returns-in-Some-line-clause-line c =
    record {
      raises = sym c.raise_above.ensures ∙ c.in_default.is;
      line = sym (ap (λ q. slice_get c.args.script.now.lines q) c.place.ensures.value) ∙ sym c.line.ensures ∙ c.in-Some-line.is;
    }

pub returns-in-None-clause-none : goal.returns-in-None-clause-none
returns-in-None-clause-none c =
    past_lines c.args.script.now (sym c.if-is_over.ensures) (sym c.raise_above.ensures ∙ c.in_default.is) (sym (ap (λ q. slice_get c.args.script.now.lines q) c.place.ensures.value) ∙ sym c.line.ensures ∙ c.in-None.is)
