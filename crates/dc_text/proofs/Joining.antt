-- What was read, with what the rest gives behind it.
use Rattle.std.proofs.Common.{◌≡◌, List, [], ◌∷◌, ◌++◌, Result, Ok, Err, refl, ap, sym}
use mathlib.Core.List.{append_assoc}
use Rattle.dc_base.specs.Results.{◌>>=◌}
use Rattle.dc_text.specs.Rest.{joined}

-- one more is read
pub joined_more : {A F : Type 0} (found : List A) (x : A) (r : Result (List A) F) → joined found (r >>= (λ xs. Ok (x ∷ xs))) ≡ joined (found ++ x ∷ []) r
joined_more found x (Ok xs) = ap Ok (sym (append_assoc found (x ∷ []) xs))
joined_more found x (Err fault) = refl

-- nothing is read yet
pub joined_none : {A F : Type 0} (r : Result (List A) F) → joined [] r ≡ r
joined_none (Ok xs) = refl
joined_none (Err fault) = refl
