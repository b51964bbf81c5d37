-- What a share lists after a block went last in it, or left it.
use Rattle.std.proofs.Common.{◌≡◌, ℕ, ◌+◌, List, [], ◌∷◌, ◌++◌, Bool, true, false, refl, sym, ap, ◌∙◌, arith}
use Rattle.std.specs.Prelude.{◌==◌, ◌||◌, not, if◌then◌else◌}
use Rattle.std.specs.List.{list_any, filter, sum_by, count_by}
use Rattle.std.proofs.lemmas.List.Sums.{sum_by-cons, sum_by-append}
use Rattle.std.proofs.lemmas.List.Folds.{list_any-append}
use Rattle.std.proofs.Math.Bool.{or-true}
use Rattle.dc_base.specs.Outcomes.{share_without, share_with_last, has}
use Rattle.dc_base.specs.States.{Member}
use Rattle.dc_block_sound.proofs.Elements.{is_same, not_same}

module _ {X : Type 0} (p q : X → Bool) where
  any_by : (x : X) (xs : List X) → (list_any p (filter (λ y. not (q y)) xs) || list_any p (filter q xs)) ≡ list_any p xs → (t : Bool) →
      (list_any p (if not t then x ∷ filter (λ y. not (q y)) xs else filter (λ y. not (q y)) xs) || list_any p (if t then x ∷ filter q xs else filter q xs)) ≡ (p x || list_any p xs)
  any_by x xs h true = moved (p x) (list_any p (filter (λ y. not (q y)) xs)) (list_any p (filter q xs)) (list_any p xs) h
    where
      moved : (a b c d : Bool) → (b || c) ≡ d → (b || (a || c)) ≡ (a || d)
      moved true true c d h = refl
      moved true false c d h = refl
      moved false b c d h = h
  any_by x xs h false = kept (p x) (list_any p (filter (λ y. not (q y)) xs)) (list_any p (filter q xs)) (list_any p xs) h
    where
      kept : (a b c d : Bool) → (b || c) ≡ d → ((a || b) || c) ≡ (a || d)
      kept true b c d h = refl
      kept false b c d h = h

  -- the two parts of a list have together what the list has
  any_split : (xs : List X) → (list_any p (filter (λ y. not (q y)) xs) || list_any p (filter q xs)) ≡ list_any p xs
  any_split [] = refl
  any_split (x ∷ xs) = any_by x xs (any_split xs) (q x)

  pub any_parted : (xs : List X) → list_any p (filter (λ y. not (q y)) xs ++ filter q xs) ≡ list_any p xs
  any_parted xs = list_any-append p (filter (λ y. not (q y)) xs) (filter q xs) ∙ any_split xs

module _ {X : Type 0} (f : X → ℕ) (q : X → Bool) where
  sum_at : (x : X) (xs : List X) → sum_by f (filter (λ y. not (q y)) xs) + sum_by f (filter q xs) ≡ sum_by f xs → (t : Bool) →
      sum_by f (if not t then x ∷ filter (λ y. not (q y)) xs else filter (λ y. not (q y)) xs) + sum_by f (if t then x ∷ filter q xs else filter q xs) ≡ f x + sum_by f xs
  sum_at x xs h true = let e = sum_by-cons f x (filter q xs) in omega (arith, e, h)
  sum_at x xs h false = let e = sum_by-cons f x (filter (λ y. not (q y)) xs) in omega (arith, e, h)

  pub sum_split : (xs : List X) → sum_by f (filter (λ y. not (q y)) xs) + sum_by f (filter q xs) ≡ sum_by f xs
  sum_split [] = refl
  sum_split (x ∷ xs) = sum_at x xs (sum_split xs) (q x) ∙ sym (sum_by-cons f x xs)

  pub sum_parted : (xs : List X) → sum_by f (filter (λ y. not (q y)) xs ++ filter q xs) ≡ sum_by f xs
  sum_parted xs = sum_by-append f (filter (λ y. not (q y)) xs) (filter q xs) ∙ sum_split xs

pub has-last : (b : ℕ) (share : List Member) (j : ℕ) → has (share_with_last b share) j ≡ has share j
has-last b share j = any_parted (λ (m : Member). m.block == j) (λ (m : Member). m.block == b) share

pub count-last : (p : Member → Bool) (b : ℕ) (share : List Member) → count_by p (share_with_last b share) ≡ count_by p share
count-last p b share = sum_parted (λ (m : Member). if p m then 1 else 0) (λ (m : Member). m.block == b) share

-- a share without a block

has_by : (b j : ℕ) (m : Member) (ms : List Member) → (has (share_without b ms) j ≡ true → (b ≡ j → ⊥) × (has ms j ≡ true)) → (t : Bool) → (m.block == b) ≡ t →
    has (if not t then m ∷ share_without b ms else share_without b ms) j ≡ true → (b ≡ j → ⊥) × (((m.block == j) || has ms j) ≡ true)
has_by b j m ms more true g h = let p = more h in (p.0, ap (λ u. (m.block == j) || u) p.1 ∙ or-true (m.block == j))
has_by b j m ms more false g h = own (m.block == j) refl h
  where
    own : (u : Bool) → (m.block == j) ≡ u → (u || has (share_without b ms) j) ≡ true → (b ≡ j → ⊥) × (((m.block == j) || has ms j) ≡ true)
    own true e k = ((λ q. not_same m.block b g (is_same m.block j e ∙ sym q)), ap (λ v. v || has ms j) e)
    own false e k = let p = more k in (p.0, ap (λ u. (m.block == j) || u) p.1 ∙ or-true (m.block == j))

pub has-without : (b j : ℕ) (share : List Member) → has (share_without b share) j ≡ true → (b ≡ j → ⊥) × (has share j ≡ true)
has-without b j [] h = absurd cc
has-without b j (m ∷ ms) h = has_by b j m ms (λ k. has-without b j ms k) (m.block == b) refl h

stays_by : (b j : ℕ) (m : Member) (ms : List Member) → (b ≡ j → ⊥) → (has ms j ≡ true → has (share_without b ms) j ≡ true) → (t : Bool) → (m.block == b) ≡ t →
    ((m.block == j) || has ms j) ≡ true → has (if not t then m ∷ share_without b ms else share_without b ms) j ≡ true
stays_by b j m ms n more true g h = own (m.block == j) refl h
  where
    own : (u : Bool) → (m.block == j) ≡ u → (u || has ms j) ≡ true → has (share_without b ms) j ≡ true
    own true e k = absurd (n (sym (is_same m.block b g) ∙ is_same m.block j e))
    own false e k = more k
stays_by b j m ms n more false g h = own (m.block == j) h
  where
    own : (u : Bool) → (u || has ms j) ≡ true → (u || has (share_without b ms) j) ≡ true
    own true k = refl
    own false k = more k

pub has-stays : (b j : ℕ) (share : List Member) → (b ≡ j → ⊥) → has share j ≡ true → has (share_without b share) j ≡ true
has-stays b j [] n h = h
has-stays b j (m ∷ ms) n h = stays_by b j m ms n (λ k. has-stays b j ms n k) (m.block == b) refl h
