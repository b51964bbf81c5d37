use Rattle.std.proofs.Common.{◌≡◌, ◌≤◌, ◌+◌, length}
use Rattle.dc_base.specs.TextWords.{words_by}
use Rattle.dc_base.specs.ProgramText.{separates}
use Rattle.dc_isa.proofs.operands.word_count.Given as goal

-- the words counted, and those of the rest
abbrev pub invariant-loop-further : goal.invariant-loop-further
invariant-loop-further l = (l.count + length (words_by separates l.rest) ≡ length (words_by separates l.line)) × (l.count + length l.rest ≤ length l.line)

abbrev pub decreases-loop-further : goal.decreases-loop-further
decreases-loop-further l = length l.rest
