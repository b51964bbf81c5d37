use Rattle.dc_journal.proofs.Choices.{skip, here}
use Rattle.dc_journal.proofs.ends.end_of.Goals as goal

pub returns-then-is_word-5 : goal.returns-then-is_word-5
returns-then-is_word-5 c =
    skip _ _ _ _ _ c.is_word.ensures c.if-is_word.false
    (skip _ _ _ _ _ c.is_word-else-is_word.ensures c.if-is_word-2.false
    (skip _ _ _ _ _ c.is_word-else-is_word-2.ensures c.if-is_word-3.false
    (skip _ _ _ _ _ c.is_word-else-is_word-3.ensures c.if-is_word-4.false
    (here _ _ _ _ _ c.is_word-else-is_word-4.ensures c.if-is_word-5.true
    (c.held.ensures)))))
