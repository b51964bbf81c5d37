-- A revoke empties just the slots that descend from the revoked one.
use Rattle.std.proofs.Common.{◌≡◌, ℕ, suc, ◌<◌, List, [], ◌∷◌, Bool, true, false, Option, Some, None, refl, sym, ap, ◌∙◌, subst}
use Rattle.std.specs.Prelude.{◌==◌, not, if◌then◌else◌, filter, slice_get}
use Rattle.dc_base.specs.Capabilities.{Seat, seat_at, reaches, after_revoke}
use Rattle.dc_base.specs.Descent.{Descends}
use Rattle.dc_laws.proofs.Descents.{is_same, reached_descends, descends_reached, stands_for}

-- a seat is found under its own slot
found_slot : (xs : List Seat) (y : ℕ) (h : Seat) → seat_at xs y ≡ Some h → h.slot ≡ y
found_slot [] y h e = absurd cc
found_slot (x ∷ xs) y h e = by_test (x.slot == y) refl e (found_slot xs y h)
  where
    by_test : (t : Bool) → (x.slot == y) ≡ t → (if t then Some x else seat_at xs y) ≡ Some h → (seat_at xs y ≡ Some h → h.slot ≡ y) → h.slot ≡ y
    by_test true q g more = let same : x ≡ h = cc in subst (λ (v : Seat). v.slot ≡ y) same (is_same x.slot y q)
    by_test false q g more = more g

-- what is found among the kept ones is kept, and was there
record WasKept (keep : Seat → Bool) (xs : List Seat) (h : Seat) : Type 0 where
  pub kept : keep h ≡ true
  pub place : ℕ
  pub there : slice_get xs place ≡ Some h

later : (keep : Seat → Bool) (x : Seat) (xs : List Seat) (h : Seat) → WasKept keep xs h → WasKept keep (x ∷ xs) h
later keep x xs h w = record { kept = w.kept; place = suc w.place; there = w.there }

was_kept : (keep : Seat → Bool) (xs : List Seat) (y : ℕ) (h : Seat) → seat_at (filter keep xs) y ≡ Some h → WasKept keep xs h
was_kept keep [] y h e = absurd cc
was_kept keep (x ∷ xs) y h e = by_test (keep x) refl e (λ g. later keep x xs h (was_kept keep xs y h g))
  where
    by_slot : (t : Bool) → keep x ≡ true → (if t then Some x else seat_at (filter keep xs) y) ≡ Some h →
        (seat_at (filter keep xs) y ≡ Some h → WasKept keep (x ∷ xs) h) → WasKept keep (x ∷ xs) h
    by_slot true q g more = let same : x ≡ h = cc in record { kept = ap keep (sym same) ∙ q; place = 0; there = g }
    by_slot false q g more = more g

    by_test : (u : Bool) → keep x ≡ u → seat_at (if u then x ∷ filter keep xs else filter keep xs) y ≡ Some h →
        (seat_at (filter keep xs) y ≡ Some h → WasKept keep (x ∷ xs) h) → WasKept keep (x ∷ xs) h
    by_test true q g more = by_slot (x.slot == y) q g more
    by_test false q g more = more g

-- what is found and kept is found again
found_kept : (keep : Seat → Bool) (xs : List Seat) (y : ℕ) (h : Seat) → keep h ≡ true → seat_at xs y ≡ Some h → seat_at (filter keep xs) y ≡ Some h
found_kept keep [] y h k e = absurd cc
found_kept keep (x ∷ xs) y h k e = by_test (x.slot == y) refl e (keep x) refl (found_kept keep xs y h k)
  where
    by_test : (t : Bool) → (x.slot == y) ≡ t → (if t then Some x else seat_at xs y) ≡ Some h → (u : Bool) → keep x ≡ u →
        (seat_at xs y ≡ Some h → seat_at (filter keep xs) y ≡ Some h) →
        seat_at (if u then x ∷ filter keep xs else filter keep xs) y ≡ Some h
    by_test true q g true r more = ap (λ t. if t then Some x else seat_at (filter keep xs) y) q ∙ g
    by_test true q g false r more = let same : x ≡ h = cc in let z : true ≡ false = sym k ∙ ap keep (sym same) ∙ r in absurd cc
    by_test false q g true r more = ap (λ t. if t then Some x else seat_at (filter keep xs) y) q ∙ more g
    by_test false q g false r more = more g

-- the slots of the table ascend
abbrev pub Ascends : List Seat → Type 0
Ascends caps = (i j : ℕ) (h k : Seat) → i < j → slice_get caps i ≡ Some h → slice_get caps j ≡ Some k → h.slot < k.slot

module _ (caps : List Seat) (up : Ascends caps) (s y : ℕ) (h : Seat) where
  stays : Seat → Bool
  stays k = not (reaches caps k s)

  left_by_revoke : seat_at (after_revoke s caps) y ≡ Some h → (seat_at caps y ≡ Some h) × (Descends caps y s → ⊥)
  unfolding after_revoke stays
  left_by_revoke e =
      let w = was_kept stays caps y h e in
      let slot = found_slot (filter stays caps) y h e in
      let found = stands_for caps up w.place h w.there in (
        subst (λ v. seat_at caps v ≡ Some h) slot found,
        λ d. (let r = descends_reached caps h s found (subst (λ v. Descends caps v s) (sym slot) d) in
            let z : false ≡ true = sym (ap not r) ∙ w.kept in
            absurd cc),
      )

  kept_by_revoke : (seat_at caps y ≡ Some h) × (Descends caps y s → ⊥) → seat_at (after_revoke s caps) y ≡ Some h
  unfolding after_revoke stays
  kept_by_revoke w =
      let slot = found_slot caps y h w.0 in
      let found : seat_at caps h.slot ≡ Some h = ap (seat_at caps) slot ∙ w.0 in
      let keep : stays h ≡ true = by_test (reaches caps h s) (λ r. w.1 (subst (λ v. Descends caps v s) slot (reached_descends caps h s found r))) in
      found_kept stays caps y h keep w.0
    where
      by_test : (t : Bool) → (t ≡ true → ⊥) → not t ≡ true
      by_test true never = absurd (never refl)
      by_test false never = refl

module _ (caps : List Seat) (up : Ascends caps) (s y : ℕ) where
  pub emptied : Descends caps y s → seat_at (after_revoke s caps) y ≡ None
  emptied d = by_seat (seat_at (after_revoke s caps) y) refl
    where
      by_seat : (o : Option Seat) → seat_at (after_revoke s caps) y ≡ o → o ≡ None
      by_seat None e = refl
      by_seat (Some h) e = absurd ((left_by_revoke caps up s y h e).1 d)

  pub untouched : (Descends caps y s → ⊥) → seat_at (after_revoke s caps) y ≡ seat_at caps y
  untouched never = by_seats (seat_at (after_revoke s caps) y) (seat_at caps y) refl refl
    where
      by_seats : (o u : Option Seat) → seat_at (after_revoke s caps) y ≡ o → seat_at caps y ≡ u → o ≡ u
      by_seats None None e f = refl
      by_seats None (Some h) e f = sym e ∙ kept_by_revoke caps up s y h (f, never)
      by_seats (Some h) u e f = sym (left_by_revoke caps up s y h e).0 ∙ f
