use Rattle.std.proofs.Common.{◌≡◌, ◌≤◌, ◌+◌, ◌*◌, drop, length}
use Rattle.dc_play.proofs.WordSums.{words_in}
use Rattle.dc_play.proofs.totals.words_on.Given as goal

-- with the words that are left these are all
abbrev pub invariant-loop-i : goal.invariant-loop-i
invariant-loop-i l = record {
  all : l.words + length (words_in (drop l.i l.consoles)) ≡ length (words_in l.consoles);
  few : l.words ≤ 65536 * l.i;
}
