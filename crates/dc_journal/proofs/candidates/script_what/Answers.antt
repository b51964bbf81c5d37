use Rattle.std.proofs.Common.{ap, ◌∙◌, drop}
use Rattle.std.specs.Option.{option_map}
use Rattle.dc_base.specs.declared.entries.What.TheVariants as what
use Rattle.dc_base.specs.LooseWords.{number_at}
use Rattle.dc_base.specs.LooseEntries.{script_what, order_of, refusal_of}
use Rattle.dc_journal.specs.Lines.{texts}
use Rattle.dc_journal.proofs.Choices.{skip, here}
use Rattle.dc_journal.proofs.candidates.script_what.Goals as goal

pub returns-then-is_at : goal.returns-then-is_at
unfolding script_what
returns-then-is_at c =
    here _ _ _ _ _ c.is_at.ensures c.if-is_at.true
    (c.post_of.ensures ∙ ap (λ place. option_map (what.Post place (record { 0 = number_at (texts c.args.words.now) 2 })) (order_of (drop 3 (texts c.args.words.now)))) c.number_at-place.ensures)

pub returns-then-is_at-3 : goal.returns-then-is_at-3
unfolding script_what
returns-then-is_at-3 c =
    skip _ _ _ _ _ c.is_at.ensures c.if-is_at.false
    (skip _ _ _ _ _ c.is_at-else-is_at.ensures c.if-is_at-2.false
    (here _ _ _ _ _ c.is_at-else-is_at-2.ensures c.if-is_at-3.true
    (c.refused_of.ensures ∙ ap (λ place. option_map (what.Refused place) (refusal_of (drop 3 (texts c.args.words.now)))) c.number_at-place.ensures)))
