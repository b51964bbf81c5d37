-- A list from which one element was lifted.
use Rattle.std.specs.Prelude.{ℕ, ◌-◌, List, Option, Some, None, slice_get, slice_set, length, take}

abbrev pub with_at : {T : Type 0} → List T → ℕ → Option T → List T
with_at xs i None = xs
with_at xs i (Some x) = slice_set xs i x

-- the list without element i, in whose place the last one stands
abbrev pub lifted : {T : Type 0} → List T → ℕ → List T
lifted xs i = take (length xs - 1) (with_at xs i (slice_get xs (length xs - 1)))
