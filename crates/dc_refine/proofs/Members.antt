-- What a list has among its elements, and its least number.
use Rattle.std.proofs.Common.{◌≡◌, ℕ, ◌<◌, ◌≤◌, List, [], ◌∷◌, ◌++◌, Bool, true, false, Option, Some, None, refl, sym, ap, ◌∙◌, subst, map, arith, inl, inr, ◌⊎◌}
use Rattle.std.specs.Prelude.{find, nat_lt, if◌then◌else◌}
use Rattle.std.specs.List.{flat_map}
use Rattle.std.proofs.lemmas.Bool.Decides.{nat_tests}
use Rattle.dc_base.specs.Words.{least, lesser}

abbrev pub In : {A : Type 0} → A → List A → Type 0
In x [] = ⊥
In x (y ∷ ys) = (x ≡ y) ⊎ In x ys

pub in_left : {A : Type 0} (x : A) (xs ys : List A) → In x xs → In x (xs ++ ys)
in_left x [] ys h = absurd h
in_left x (z ∷ xs) ys (inl e) = inl e
in_left x (z ∷ xs) ys (inr h) = inr (in_left x xs ys h)

pub in_right : {A : Type 0} (x : A) (xs ys : List A) → In x ys → In x (xs ++ ys)
in_right x [] ys h = h
in_right x (z ∷ xs) ys h = inr (in_right x xs ys h)

pub in_either : {A : Type 0} (x : A) (xs ys : List A) → In x (xs ++ ys) → In x xs ⊎ In x ys
in_either x [] ys h = inr h
in_either x (z ∷ xs) ys (inl e) = inl (inl e)
in_either x (z ∷ xs) ys (inr h) = shift (in_either x xs ys h)
  where
    shift : In x xs ⊎ In x ys → In x (z ∷ xs) ⊎ In x ys
    shift (inl g) = inl (inr g)
    shift (inr g) = inr g

-- what a list has that is read from another
pub in_map : {A B : Type 0} (f : A → B) (xs : List A) (y : B) → In y (map f xs) → (x : A) × In x xs × (y ≡ f x)
in_map f [] y h = absurd h
in_map f (x ∷ xs) y (inl e) = (x, inl refl, e)
in_map f (x ∷ xs) y (inr h) = let r = in_map f xs y h in (r.0, inr r.1, r.2)

pub map_in : {A B : Type 0} (f : A → B) (xs : List A) (x : A) → In x xs → In (f x) (map f xs)
map_in f [] x h = absurd h
map_in f (z ∷ xs) x (inl e) = inl (ap f e)
map_in f (z ∷ xs) x (inr h) = inr (map_in f xs x h)

pub in_flat : {A B : Type 0} (f : A → List B) (xs : List A) (y : B) → In y (flat_map f xs) → (x : A) × In x xs × In y (f x)
in_flat f [] y h = absurd h
in_flat f (x ∷ xs) y h = by_part (in_either y (f x) (flat_map f xs) h) (λ g. in_flat f xs y g)
  where
    by_part : In y (f x) ⊎ In y (flat_map f xs) → (In y (flat_map f xs) → (x : _) × In x xs × In y (f x)) → (z : _) × In z (x ∷ xs) × In y (f z)
    by_part (inl g) more = (x, inl refl, g)
    by_part (inr g) more = let r = more g in (r.0, inr r.1, r.2)

pub flat_in : {A B : Type 0} (f : A → List B) (xs : List A) (x : A) (y : B) → In x xs → In y (f x) → In y (flat_map f xs)
flat_in f [] x y h g = absurd h
flat_in f (z ∷ xs) x y (inl e) g = in_left y (f z) (flat_map f xs) (subst (λ v. In y (f v)) e g)
flat_in f (z ∷ xs) x y (inr h) g = in_right y (f z) (flat_map f xs) (flat_in f xs x y h g)

-- where nothing is found nothing passes the test
found_none : {A : Type 0} (x : A) (t : Bool) (o : Option A) → (if t then Some x else o) ≡ None → (t ≡ false) × (o ≡ None)
found_none x true o h = cc
found_none x false o h = (refl, h)

pub none_found : {A : Type 0} (p : A → Bool) (xs : List A) (x : A) → find p xs ≡ None → In x xs → p x ≡ false
none_found p [] x h g = absurd g
none_found p (z ∷ xs) x h (inl e) = ap p e ∙ (found_none z (p z) (find p xs) h).0
none_found p (z ∷ xs) x h (inr g) = none_found p xs x (found_none z (p z) (find p xs) h).1 g

-- the least number
least_listed : (n : ℕ) (ns : List ℕ) (o : Option ℕ) (m : ℕ) → (least ns ≡ Some m → In m ns) → least ns ≡ o → Some (lesser n o) ≡ Some m → In m (n ∷ ns)
least_listed n ns None m more e h = inl (let f : n ≡ m = cc in sym f)
least_listed n ns (Some r) m more e h = by_test (nat_lt r n) h
  where
    by_test : (t : Bool) → Some (if t then r else n) ≡ Some m → In m (n ∷ ns)
    by_test true g = let f : r ≡ m = cc in inr (more (e ∙ ap Some f))
    by_test false g = inl (let f : n ≡ m = cc in sym f)

pub least_in : (ns : List ℕ) (m : ℕ) → least ns ≡ Some m → In m ns
least_in [] m h = cc
least_in (n ∷ ns) m h = least_listed n ns (least ns) m (λ g. least_in ns m g) refl h

lesser_most : (n r : ℕ) (t : Bool) → nat_lt r n ≡ t → ((if t then r else n) ≤ n) × ((if t then r else n) ≤ r)
lesser_most n r true e = let h : r < n = grind (arith, nat_tests, e) in (omega arith, omega arith)
lesser_most n r false e = let h : n ≤ r = grind (arith, nat_tests, e) in (omega arith, h)

none_least : (ns : List ℕ) (n : ℕ) → least ns ≡ None → In n ns → ⊥
none_least [] n h g = g
none_least (m ∷ ns) n h g = cc

least_at_most : (n : ℕ) (ns : List ℕ) (o : Option ℕ) (m x : ℕ) → ((r : ℕ) → least ns ≡ Some r → In x ns → r ≤ x) → least ns ≡ o → Some (lesser n o) ≡ Some m → In x (n ∷ ns) → m ≤ x
least_at_most n ns None m x more e h (inl f) = let g : n ≡ m = cc in omega (arith, f, g)
least_at_most n ns None m x more e h (inr f) = absurd (none_least ns x e f)
least_at_most n ns (Some r) m x more e h (inl f) =
    let g : lesser n (Some r) ≡ m = cc in let k = (lesser_most n r (nat_lt r n) refl).0 in subst (λ v. v ≤ x) g (omega (arith, k, f))
least_at_most n ns (Some r) m x more e h (inr f) =
    let g : lesser n (Some r) ≡ m = cc in let k = (lesser_most n r (nat_lt r n) refl).1 in let l = more r e f in subst (λ v. v ≤ x) g (omega (arith, k, l))

pub least_most : (ns : List ℕ) (m x : ℕ) → least ns ≡ Some m → In x ns → m ≤ x
least_most [] m x h g = absurd g
least_most (n ∷ ns) m x h g = least_at_most n ns (least ns) m x (λ r e f. least_most ns r x e f) refl h g

least_by : (ns : List ℕ) (m : ℕ) → In m ns → ((x : ℕ) → In x ns → m ≤ x) → (o : Option ℕ) → least ns ≡ o → o ≡ Some m
least_by ns m h most None e = absurd (none_least ns m e h)
least_by ns m h most (Some r) e =
    let a = most r (least_in ns r e) in let b = least_most ns r m e h in
    let same : r ≡ m = omega arith in ap Some same

pub least_is : (ns : List ℕ) (m : ℕ) → In m ns → ((x : ℕ) → In x ns → m ≤ x) → least ns ≡ Some m
least_is ns m h most = least_by ns m h most (least ns) refl

-- what is found is there
found_by : {A : Type 0} (z x : A) (xs : List A) (t : Bool) (o : Option A) → (o ≡ Some x → In x xs) → (if t then Some z else o) ≡ Some x → In x (z ∷ xs)
found_by z x xs true o more h = inl (let f : z ≡ x = cc in sym f)
found_by z x xs false o more h = inr (more h)

pub found-in : {A : Type 0} (p : A → Bool) (xs : List A) (x : A) → find p xs ≡ Some x → In x xs
found-in p [] x h = cc
found-in p (z ∷ xs) x h = found_by z x xs (p z) (find p xs) (λ g. found-in p xs x g) h
