use Rattle.std.proofs.Common.{◌≡◌, ◌+◌, drop}
use Rattle.std.specs.Prelude.{◌%◌, ◌^◌, sum}
use Rattle.dc_play.proofs.totals.with_words.Given as goal

-- with the words that are left it is the whole sum
abbrev pub invariant-loop-i : goal.invariant-loop-i
invariant-loop-i l = (l.total + sum (drop l.i l.console)) % 2 ^ 32 ≡ (l.before + sum l.console) % 2 ^ 32
