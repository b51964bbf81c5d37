-- Lists by their last element, and turned round.
use Rattle.std.proofs.Common.{◌≡◌, List, [], ◌∷◌, ◌++◌, map, length, refl, sym, ap, ◌∙◌, append_assoc, length-append, arith}
use Rattle.std.specs.Prelude.{reverse}
use Rattle.std.proofs.lemmas.List.{reverse-append, map-append}

pub no_items : {A : Type 0} (xs : List A) → length xs ≡ 0 → xs ≡ []
no_items [] e = refl
no_items (x ∷ xs) e = absurd (omega arith)

-- lists that are the same are so up to the last element, which is the same
pub last_same : {A : Type 0} (xs ys : List A) (x y : A) → xs ++ x ∷ [] ≡ ys ++ y ∷ [] → (xs ≡ ys) × (x ≡ y)
last_same [] [] x y e = (refl, cc)
last_same [] (b ∷ ys) x y e = absurd (omega (arith, ap length e, length-append ys (y ∷ [])))
last_same (a ∷ xs) [] x y e = absurd (omega (arith, ap length e, length-append xs (x ∷ [])))
last_same (a ∷ xs) (b ∷ ys) x y e =
    let first : a ≡ b = cc in
    let more : xs ++ x ∷ [] ≡ ys ++ y ∷ [] = cc in
    let r = last_same xs ys x y more in
    let front : xs ≡ ys = r.0 in
    (cc, r.1)

pub reverse_cons : {A : Type 0} (x : A) (xs : List A) → reverse (x ∷ xs) ≡ reverse xs ++ x ∷ []
reverse_cons x xs = reverse-append (x ∷ []) xs

-- an element more, put behind what is turned round already
pub one_behind : {A : Type 0} (xs ks : List A) (k : A) → (xs ++ reverse ks) ++ k ∷ [] ≡ xs ++ reverse (k ∷ ks)
one_behind xs ks k = append_assoc xs (reverse ks) (k ∷ []) ∙ ap (λ ys. xs ++ ys) (sym (reverse_cons k ks))

pub map_reverse : {A B : Type 0} (f : A → B) (xs : List A) → map f (reverse xs) ≡ reverse (map f xs)
map_reverse f [] = refl
map_reverse f (x ∷ xs) =
    ap (map f) (reverse_cons x xs)
    ∙ (map-append f (reverse xs) (x ∷ [])
    ∙ (ap (λ ys. ys ++ f x ∷ []) (map_reverse f xs)
    ∙ sym (reverse_cons (f x) (map f xs))))

-- an element goes from the end of the one list to the end of the other, where it is seen the same
pub one_put : {A B C : Type 0} (see : B → C) (shown : A → C) (list : List B) (rest : List A) (x : A) (o : B) → see o ≡ shown x
    → map see (list ++ o ∷ []) ++ reverse (map shown rest) ≡ map see list ++ reverse (map shown (rest ++ x ∷ []))
one_put see shown list rest x o e =
    ap (λ ys. ys ++ reverse (map shown rest)) (map-append see list (o ∷ []) ∙ ap (λ z. map see list ++ z ∷ []) e)
    ∙ (append_assoc (map see list) (shown x ∷ []) (reverse (map shown rest))
    ∙ ap (λ ys. map see list ++ ys) (sym (ap reverse (map-append shown rest (x ∷ [])) ∙ reverse-append (map shown rest) (shown x ∷ []))))
