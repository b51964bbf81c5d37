-- A word that is not spelled so.
use Rattle.std.proofs.Common.{◌≡◌, ℕ, false, List, arith, bytes_eq, sym}
use Rattle.std.proofs.lemmas.Slice.Eq.{bytes_eq-Decides}

pub other_word : (spelled word : List ℕ) → (word ≡ spelled → ⊥) → bytes_eq spelled word ≡ false
other_word spelled word other = let apart : spelled ≡ word → ⊥ = λ e. other (sym e) in grind (arith, bytes_eq-Decides)
