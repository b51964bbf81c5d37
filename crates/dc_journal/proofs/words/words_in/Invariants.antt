use Rattle.std.proofs.Common.{◌≡◌, take}
use Rattle.dc_text.specs.Places.{texts_at}
use Rattle.dc_journal.specs.Lines.{texts}
use Rattle.dc_journal.proofs.words.words_in.Given as goal

-- the words found are those at the places before
abbrev pub invariant-loop-place : goal.invariant-loop-place
invariant-loop-place l = texts l.found.items ≡ texts_at l.fn.line (take l.place-index l.place-items)
