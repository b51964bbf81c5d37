-- What a slice looks up.
use Rattle.std.proofs.Common.{◌≡◌, ℕ, ◌<◌, List, map, length, Some, ap, sym, ◌∙◌, subst}
use Rattle.std.specs.Prelude.{slice_get, slice_index_or}
use Rattle.std.specs.Option.{option_map}
use Rattle.std.proofs.lemmas.List.{length-map}
use Rattle.std.proofs.lemmas.Option.{slice_get-map, slice_get-get_or}
use Rattle.dc_base.specs.Ahead as plain
use Rattle.dc_base.specs.Effects.{Context}

-- what an index gives is at that place
pub found : {A B : Type 0} (f : A → B) (xs : List A) (ys : List B) (i : ℕ) (v : A) → map f xs ≡ ys → i < length ys → v ≡ slice_index_or xs i v → slice_get ys i ≡ Some (f v)
found {B = B} f xs ys i v same within e =
    let inside : i < length xs = subst (λ n. i < n) (length-map _ _) (subst (λ (zs : List B). i < length zs) (sym same) within) in
    ap (λ zs. slice_get zs i) (sym same) ∙ (slice_get-map f xs i ∙ ap (option_map f) (slice_get-get_or xs i v inside ∙ ap Some (sym e)))

-- the plain part of the same code, context and memory
pub ahead_of_same : (time quantum : ℕ) (m m' code code' : List ℕ) (x x' : Context) → m ≡ m' → code ≡ code' → x ≡ x' → plain.ahead time code quantum x m ≡ plain.ahead time code' quantum x' m'
ahead_of_same time quantum m m' code code' x x' p q r =
    ap (λ m. plain.ahead time code quantum x m) p
    ∙ (ap (λ code. plain.ahead time code quantum x m') q
    ∙ ap (λ x. plain.ahead time code' quantum x m') r)

pub end_of_same : (time quantum : ℕ) (m m' code code' : List ℕ) (x x' : Context) → m ≡ m' → code ≡ code' → x ≡ x' → (plain.ahead time code quantum x m).end ≡ (plain.ahead time code' quantum x' m').end
end_of_same time quantum m m' code code' x x' p q r = ap (λ (a : plain.Ahead). a.end) (ahead_of_same time quantum m m' code code' x x' p q r)
