-- A block of a row changes in its place.
use Rattle.std.specs.Prelude.{◌≡◌, ℕ, Some}
use Rattle.dc_base.specs.States.{Block}
use Rattle.dc_hands.specs.Rows.{Rowed, in_row}

-- block b is this one, and each other as it was
pub record IsPutIn (b : ℕ) (x : Block) (before after : Rowed) : Type 0 where
  pub here : in_row after b ≡ Some x
  pub others : (n : ℕ) → (n ≡ b → ⊥) → in_row after n ≡ in_row before n
