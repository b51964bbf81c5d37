-- A count that rose since a later moment rose since an earlier one.
use Rattle.std.proofs.Common.{ℕ, ◌+◌, ◌-◌, ◌^◌, ◌≤◌, arith}
use Rattle.std.specs.Prelude.{min}
use Rattle.std.proofs.Math.Nat.{min-le_left, min-le_right, le-min}
use Rattle.dc_io.specs.Counts.{Rose}

pub rose_since : (first later now : ℕ) → first ≤ later → Rose later now → Rose first now
rose_since first later now h rose =
    let left = min-le_left (first + 1) (2 ^ 64 - 1) in
    let low : min (first + 1) (2 ^ 64 - 1) ≤ later + 1 = omega (arith, left, h) in
    let more = le-min low (min-le_right (first + 1) (2 ^ 64 - 1)) in
    omega (arith, more, rose)
