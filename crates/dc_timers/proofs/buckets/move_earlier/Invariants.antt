use Rattle.std.proofs.Common.{◌≡◌, ℕ, ◌+◌, ◌<◌, length}
use Rattle.std.specs.Prelude.{◌&&◌, nat_lt, slice_index}
use Rattle.dc_base.specs.Words.{count_of}
use Rattle.dc_timers.proofs.buckets.move_earlier.Given as goal

abbrev pub invariant-loop-k : goal.invariant-loop-k
invariant-loop-k l = (length l.starts ≡ 65) × ((j : ℕ) → j < 65 → slice_index l.starts j + count_of (nat_lt l.bucket j && nat_lt j l.k) ≡ slice_index l.fn.starts j)
