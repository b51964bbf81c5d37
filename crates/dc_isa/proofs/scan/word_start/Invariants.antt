use Rattle.std.proofs.Common.{◌≡◌, drop}
use Rattle.dc_base.specs.TextWords.{words_by}
use Rattle.dc_base.specs.ProgramText.{separates}
use Rattle.dc_isa.proofs.scan.word_start.Given as goal

abbrev pub invariant-loop-at : goal.invariant-loop-at
invariant-loop-at l = words_by separates (drop l.at l.line) ≡ words_by separates l.line
