-- What stands in a ready list.
use Rattle.std.proofs.Common.{◌≡◌, ℕ, zero, suc, List, [], ◌∷◌, Bool, true, false, Some, refl, ap, ◌∙◌, arith}
use Rattle.std.specs.Prelude.{slice_get, ◌==◌, ◌||◌}
use Rattle.std.proofs.lemmas.Bool.Decides.{nat_tests}
use Rattle.std.proofs.Math.Bool.{or-true}
use Rattle.dc_base.specs.Words.{lists}
use Rattle.dc_ready.specs.Entries.{dispatchers}

pub same_is : (n : ℕ) → (n == n) ≡ true
same_is n = grind (arith, nat_tests)

-- a dispatcher with a place in the list is listed
pub listed_at : (es : List (ℕ × ℕ)) (i : ℕ) (e : ℕ × ℕ) → slice_get es i ≡ Some e → lists (dispatchers es) e.0 ≡ true
listed_at [] i e q = absurd cc
listed_at (x ∷ es) zero e q = let same : x ≡ e = cc in ap (λ (y : ℕ × ℕ). (y.0 == e.0) || lists (dispatchers es) e.0) same ∙ ap (λ t. t || lists (dispatchers es) e.0) (same_is e.0)
listed_at (x ∷ es) (suc i) e q = ap (λ t. (x.0 == e.0) || t) (listed_at es i e q) ∙ or-true (x.0 == e.0)
