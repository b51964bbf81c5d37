-- One step up from parent to parent.
use Rattle.std.proofs.Common.{◌≡◌, ℕ, zero, suc, ◌+◌, ◌-◌, ◌<◌, List, Bool, false, Option, Some, None, refl, sym, ap, ◌∙◌, arith}
use Rattle.std.specs.Prelude.{◌==◌, ◌||◌}
use Rattle.dc_mdb.specs.Forests.{Node, parent_at, reaches_in}
use Rattle.dc_mdb.proofs.Elements.{other_is}

pub reaches_none : (n : ℕ) (nodes : List Node) (s : ℕ) → reaches_in n nodes s None ≡ false
reaches_none zero nodes s = refl
reaches_none (suc n) nodes s = refl

-- k of n steps are made, and one more goes to p
pub reaches_some : (n k : ℕ) (nodes : List Node) (s p : ℕ) → k < n → reaches_in (n - k) nodes s (Some p) ≡ (p == s || reaches_in (n - (k + 1)) nodes s (parent_at nodes p))
reaches_some n k nodes s p l = let e : n - k ≡ suc (n - (k + 1)) = omega (arith, l) in ap (λ m. reaches_in m nodes s (Some p)) e

-- one more step is made, past another slot
pub reaches_next : (n k : ℕ) (nodes : List Node) (s p : ℕ) (above next : Option ℕ) (r : Bool) → k < n → above ≡ Some p → (p ≡ s → ⊥) → next ≡ parent_at nodes p → r ≡ reaches_in (n - k) nodes s above → r ≡ reaches_in (n - (k + 1)) nodes s next
reaches_next n k nodes s p above next r l a ne e h =
    h ∙ ap (reaches_in (n - k) nodes s) a ∙ reaches_some n k nodes s p l ∙ ap (λ t. t || reaches_in (n - (k + 1)) nodes s (parent_at nodes p)) (other_is p s ne) ∙ ap (reaches_in (n - (k + 1)) nodes s) (sym e)
