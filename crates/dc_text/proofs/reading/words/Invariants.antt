use Rattle.dc_text.specs.Places.{IsScanned}
use Rattle.dc_text.proofs.reading.words.Given as goal

abbrev pub invariant-loop-at : goal.invariant-loop-at
invariant-loop-at l = IsScanned l.line l.found.items l.from l.at
