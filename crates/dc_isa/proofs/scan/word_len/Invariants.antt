use Rattle.std.proofs.Common.{◌≡◌, take, drop}
use Rattle.dc_base.specs.TextWords.{words_by, words_after}
use Rattle.dc_base.specs.ProgramText.{separates}
use Rattle.dc_isa.proofs.scan.word_len.Given as goal

abbrev pub invariant-loop-at : goal.invariant-loop-at
invariant-loop-at l = words_after separates (take l.at l.line) (drop l.at l.line) ≡ words_by separates l.line
