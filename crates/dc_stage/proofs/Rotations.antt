-- The slot carried first goes behind the others.
use Rattle.std.proofs.Common.{◌≡◌, ℕ, List, [], ◌∷◌, ◌++◌, length, get_or, drop, refl, arith, ap, ap₂, ◌∙◌}
use Rattle.atomic_table.specs.Table.{turned}
use Rattle.dc_stage.specs.Carried.{keys}

keys_snoc : {X : Type 0} (c : List (ℕ × X)) (y : ℕ × X) → keys (c ++ y ∷ []) ≡ keys c ++ y.0 ∷ []
keys_snoc [] y = refl
keys_snoc (x ∷ xs) y = ap (λ t. x.0 ∷ t) (keys_snoc xs y)

pub turned_keys : {X : Type 0} (c : List (ℕ × X)) (y : ℕ) (ys : List ℕ) → keys c ≡ y ∷ ys → keys (turned c) ≡ ys ++ y ∷ []
turned_keys [] y ys e = absurd (let l = ap length e in omega arith)
turned_keys (x ∷ xs) y ys e = keys_snoc xs x ∙ ap₂ (λ t z. t ++ z ∷ []) (ap (drop 1) e) (ap (λ t. get_or t 0 0) e)
