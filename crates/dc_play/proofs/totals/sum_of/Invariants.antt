use Rattle.std.proofs.Common.{◌≡◌, ◌<◌, ◌+◌, drop}
use Rattle.std.specs.Prelude.{◌%◌, ◌^◌, sum}
use Rattle.dc_play.proofs.WordSums.{words_in}
use Rattle.dc_play.proofs.totals.sum_of.Given as goal

-- with the words that are left it is the whole sum
abbrev pub invariant-loop-i : goal.invariant-loop-i
invariant-loop-i l = record {
  whole : (l.total + sum (words_in (drop l.i l.consoles))) % 2 ^ 32 ≡ sum (words_in l.consoles) % 2 ^ 32;
  low : l.total < 2 ^ 32;
}
