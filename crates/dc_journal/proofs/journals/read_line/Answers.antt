use Rattle.std.proofs.Common.{rules, ◌≡◌, ◌∷◌, Err, ap, sym, subst, ◌∙◌}
use Rattle.dc_text.specs.Rest.{lines_left}
use Rattle.dc_journal.specs.Readings.{ReadsLine}
use Rattle.dc_journal.proofs.Reading.{reads_report, reads_entry, reads_fault}
use Rattle.dc_journal.proofs.journals.read_line.Goals as goal

pub returns-then-is_word-clause-line : goal.returns-then-is_word-clause-line
returns-then-is_word-clause-line c =
    let lines = c.first_line.ensures.lines ∙ ap (λ rest. c.first_line.result.0.now ∷ lines_left rest) c.in-Some.is in
    reads_report c.args.entries.now.items c.args.entries.now.items c.args.text.now c.first_line.result.0.now c.in-Some.further.now lines (sym c.is_word.ensures ∙ c.if-is_word.true)

pub returns-in_err-add_entry-clause-line : goal.returns-in_err-add_entry-clause-line
returns-in_err-add_entry-clause-line c =
    let lines = c.first_line.ensures.lines ∙ ap (λ rest. c.first_line.result.0.now ∷ lines_left rest) c.in-Some.is in
    let same : c.from_residual.result ≡ Err c.in_err-add_entry.field-0.0 = search rules in
    subst (λ r. ReadsLine r c.args.entries.now.items c.add_entry.new.entries.items c.args.text.now) (sym same)
    (reads_fault c.args.entries.now.items c.add_entry.new.entries.items c.args.text.now c.first_line.result.0.now c.in-Some.further.now lines (sym c.is_word.ensures ∙ c.if-is_word.false) c.in_err-add_entry.field-0.0 c.in_err-add_entry.ensures.entry)

pub returns-clause-line : goal.returns-clause-line
returns-clause-line c =
    let lines = c.first_line.ensures.lines ∙ ap (λ rest. c.first_line.result.0.now ∷ lines_left rest) c.in-Some.is in
    reads_entry c.args.entries.now.items c.add_entry.new.entries.items c.args.text.now c.first_line.result.0.now c.in-Some.further.now lines (sym c.is_word.ensures ∙ c.if-is_word.false) c.in_ok-add_entry.ensures.entry
