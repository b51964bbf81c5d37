use Rattle.std.proofs.Common.{◌≡◌, take}
use Rattle.std.specs.Prelude.{slice_index}
use Rattle.dc_exec.specs.Changes.{with_changes}
use Rattle.dc_exec.proofs.windows.word_under.Given as goal

-- the changes from here on are elsewhere
abbrev pub invariant-loop-i : goal.invariant-loop-i
invariant-loop-i l = slice_index (with_changes l.words (take l.i l.changes)) l.address ≡ slice_index (with_changes l.words l.changes) l.address
