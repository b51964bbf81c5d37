-- Going from parent to parent ends at a root: this stays as slots are added and as they go.
use Rattle.std.proofs.Common.{◌≡◌, ℕ, zero, suc, ◌+◌, ◌<◌, ◌≤◌, List, [], ◌∷◌, Bool, true, false, Option, Some, None, refl, sym, ap, ◌∙◌, subst, arith, length, map}
use Rattle.std.specs.Prelude.{slice_get, nat_lt, ◌==◌, ◌||◌, not, if◌then◌else◌, filter, IfSome, is_some, fold}
use Rattle.std.proofs.lemmas.Bool.Decides.{nat_tests}
use Rattle.dc_base.specs.Words.{Each, is_number, count_of}
use Rattle.dc_base.specs.Capabilities.{Seat, seat_at, is_used, parent_in, parent_at, with_seat, reaches_in, reaches, after_revoke, with_parent, after_delete, slots_of_line, without_line}
use Rattle.dc_base.specs.KeptByBlocks.{Falls}
use Rattle.dc_block_sound.proofs.Elements.{same_is, is_same, not_same, other_is}
use Rattle.dc_base.proofs.Ascending.{was_there, each_filter, Ascends, ascends_filter, ascends_map}
use Rattle.std.proofs.lemmas.Bool.{or_parts}
use Rattle.dc_block_sound.proofs.Seats.{in_filter, in_map, map_there, IsSeat, used_seat, there_used, seat_found, each_put, still_used, ascends_put}

abbrev pub seat_slot : Seat → ℕ
seat_slot h = h.slot

abbrev pub Parents : List Seat → Type 0
Parents caps = Each caps (λ i (h : Seat). IfSome h.parent (λ p. is_used caps p ≡ true))

-- the slots ascend, each parent is used, and ranks fall to roots
pub record IsForest (caps : List Seat) : Type 0 where
  pub ascending : Ascends seat_slot caps
  pub parents : Parents caps
  pub roots : (rank : ℕ → ℕ) × Falls rank caps

-- one seat more

module _ (caps : List Seat) (f : IsForest caps) (h : Seat) (free : is_used caps h.slot ≡ false) where
  apart : (i : ℕ) (k : Seat) → slice_get caps i ≡ Some k → k.slot ≡ h.slot → ⊥
  apart i k e same = let u : is_used caps h.slot ≡ true = subst (λ q. is_used caps q ≡ true) same (there_used caps k i e) in let z : false ≡ true = sym free ∙ u in cc

  put_parents : (o : Option ℕ) → IfSome o (λ p. is_used caps p ≡ true) → IfSome o (λ p. is_used (with_seat h caps) p ≡ true)
  put_parents None u = tt
  put_parents (Some p) u = still_used h caps p u

  -- the parent's rank and one more, for the new slot
  ranked : (ℕ → ℕ) → ℕ → ℕ → ℕ
  ranked rank top k = if k == h.slot then top else rank k

  old_rank : (rank : ℕ → ℕ) (top k : ℕ) → (k ≡ h.slot → ⊥) → ranked rank top k ≡ rank k
  unfolding ranked
  old_rank rank top k n = ap (λ t. if t then top else rank k) (other_is k h.slot n)

  new_rank : (rank : ℕ → ℕ) (top : ℕ) → ranked rank top h.slot ≡ top
  unfolding ranked
  new_rank rank top = ap (λ t. if t then top else rank h.slot) (same_is h.slot)

  used_apart : (p : ℕ) → is_used caps p ≡ true → p ≡ h.slot → ⊥
  used_apart p u same = let z : false ≡ true = sym free ∙ ap (is_used caps) (sym same) ∙ u in cc

  old_falls : (rank : ℕ → ℕ) (top : ℕ) → Falls rank caps → Falls (ranked rank top) caps
  old_falls rank top r i k e = by_parent k.parent (f.parents i k e) (r i k e)
    where
      by_parent : (o : Option ℕ) → IfSome o (λ p. is_used caps p ≡ true) → IfSome o (λ p. rank p < rank k.slot) → IfSome o (λ p. ranked rank top p < ranked rank top k.slot)
      by_parent None u l = tt
      by_parent (Some p) u l = let a = old_rank rank top p (used_apart p u) in let b = old_rank rank top k.slot (apart i k e) in omega (arith, a, b, l)

  new_falls : (rank : ℕ → ℕ) (o : Option ℕ) → IfSome o (λ p. is_used caps p ≡ true) → (top : ℕ) × IfSome o (λ p. ranked rank top p < ranked rank top h.slot)
  new_falls rank None u = (0, tt)
  new_falls rank (Some p) u = let top = rank p + 1 in let a = old_rank rank top p (used_apart p u) in let b = new_rank rank top in (top, omega (arith, a, b))

  pub put_forest : IfSome h.parent (λ p. is_used caps p ≡ true) → IsForest (with_seat h caps)
  put_forest u =
      let n = new_falls f.roots.0 h.parent u in
      record {
        ascending = ascends_put h caps apart f.ascending;
        parents = each_put h (λ (k : Seat). IfSome k.parent (λ p. is_used (with_seat h caps) p ≡ true)) caps (put_parents h.parent u) (λ i k e. put_parents k.parent (f.parents i k e));
        roots = (ranked f.roots.0 n.0, each_put h (λ (k : Seat). IfSome k.parent (λ p. ranked f.roots.0 n.0 p < ranked f.roots.0 n.0 k.slot)) caps n.1 (old_falls f.roots.0 n.0 f.roots.1));
      }

-- what is found and kept is found again

found_by : (keep : Seat → Bool) (p : ℕ) (x : Seat) (xs : List Seat) (h : Seat) → keep h ≡ true → (seat_at xs p ≡ Some h → seat_at (filter keep xs) p ≡ Some h) → (t : Bool) → (x.slot == p) ≡ t →
    (if t then Some x else seat_at xs p) ≡ Some h → (u : Bool) → keep x ≡ u → seat_at (if u then x ∷ filter keep xs else filter keep xs) p ≡ Some h
found_by keep p x xs h k more true q e true r = ap (λ t. if t then Some x else seat_at (filter keep xs) p) q ∙ e
found_by keep p x xs h k more true q e false r = let same : x ≡ h = cc in let z : true ≡ false = sym k ∙ ap keep (sym same) ∙ r in absurd cc
found_by keep p x xs h k more false q e true r = ap (λ t. if t then Some x else seat_at (filter keep xs) p) q ∙ more e
found_by keep p x xs h k more false q e false r = more e

found_kept : (keep : Seat → Bool) (p : ℕ) (xs : List Seat) (h : Seat) → keep h ≡ true → seat_at xs p ≡ Some h → seat_at (filter keep xs) p ≡ Some h
found_kept keep p [] h k e = absurd cc
found_kept keep p (x ∷ xs) h k e = found_by keep p x xs h k (λ g. found_kept keep p xs h k g) (x.slot == p) refl e (keep x) refl

-- how many slots have a rank below r

abbrev below : (ℕ → ℕ) → ℕ → List Seat → ℕ
below rank r [] = 0
below rank r (h ∷ hs) = count_of (nat_lt (rank h.slot) r) + below rank r hs

count_more : (a r q : ℕ) → r ≤ q → count_of (nat_lt a r) ≤ count_of (nat_lt a q)
count_more a r q h = by_tests (nat_lt a r) (nat_lt a q) refl refl
  where
    by_tests : (t u : Bool) → nat_lt a r ≡ t → nat_lt a q ≡ u → count_of t ≤ count_of u
    by_tests false false e f = omega arith
    by_tests false true e f = omega arith
    by_tests true true e f = omega arith
    by_tests true false e f = absurd (let l : a < r = grind (arith, nat_tests, e) in let m : q ≤ a = grind (arith, nat_tests, f) in omega (arith, l, m, h))

count_most : (t : Bool) → count_of t ≤ 1
count_most true = omega arith
count_most false = omega arith

below_more : (rank : ℕ → ℕ) (r q : ℕ) (caps : List Seat) → r ≤ q → below rank r caps ≤ below rank q caps
below_more rank r q [] h = omega arith
below_more rank r q (k ∷ ks) h = let a = count_more (rank k.slot) r q h in let b = below_more rank r q ks h in omega (arith, a, b)

count_yes : (a r : ℕ) → a < r → count_of (nat_lt a r) ≡ 1
count_yes a r h = ap count_of (let t : nat_lt a r ≡ true = grind (arith, nat_tests, h) in t)

count_no : (a r : ℕ) → r ≤ a → count_of (nat_lt a r) ≡ 0
count_no a r h = ap count_of (let t : nat_lt a r ≡ false = grind (arith, nat_tests, h) in t)

-- a slot with a rank between makes the count less
below_less : (rank : ℕ → ℕ) (r q : ℕ) (caps : List Seat) (g : Seat) (i : ℕ) → slice_get caps i ≡ Some g → r ≤ rank g.slot → rank g.slot < q → below rank r caps + 1 ≤ below rank q caps
below_less rank r q [] g i e h l = absurd cc
below_less rank r q (k ∷ ks) g zero e h l =
    let same : k ≡ g = cc in
    let a : count_of (nat_lt (rank k.slot) r) ≡ 0 = subst (λ (v : Seat). count_of (nat_lt (rank v.slot) r) ≡ 0) (sym same) (count_no (rank g.slot) r h) in
    let b : count_of (nat_lt (rank k.slot) q) ≡ 1 = subst (λ (v : Seat). count_of (nat_lt (rank v.slot) q) ≡ 1) (sym same) (count_yes (rank g.slot) q l) in
    let m = below_more rank r q ks (omega (arith, h, l)) in
    omega (arith, a, b, m)
below_less rank r q (k ∷ ks) g (suc i) e h l = let a = count_more (rank k.slot) r q (omega (arith, h, l)) in let m = below_less rank r q ks g i e h l in omega (arith, a, m)

below_all : (rank : ℕ → ℕ) (r : ℕ) (caps : List Seat) → below rank r caps ≤ length caps
below_all rank r [] = omega arith
below_all rank r (k ∷ ks) = let a = count_most (nat_lt (rank k.slot) r) in let m = below_all rank r ks in omega (arith, a, m)

below_some : (rank : ℕ → ℕ) (r : ℕ) (caps : List Seat) (g : Seat) (i : ℕ) → slice_get caps i ≡ Some g → r ≤ rank g.slot → below rank r caps + 1 ≤ length caps
below_some rank r caps g i e h = let a = below_less rank r (rank g.slot + 1) caps g i e h (omega arith) in let b = below_all rank (rank g.slot + 1) caps in omega (arith, a, b)

module _ (s : ℕ) (caps : List Seat) where
  -- one goes, and its children get its parent

  abbrev pub adopted : Seat → Seat
  adopted h = with_parent s (parent_at caps s) h

  abbrev pub stands : Seat → Bool
  stands h = not (h.slot == s)

  pub adopted_slot : (h : Seat) → (adopted h).slot ≡ h.slot
  adopted_slot h = by_test (is_number s h.parent)
    where
      by_test : (t : Bool) → (if t then record h { parent = parent_at caps s } else h).slot ≡ h.slot
      by_test true = refl
      by_test false = refl

  pub adopted_cap : (h : Seat) → (adopted h).cap ≡ h.cap
  adopted_cap h = by_test (is_number s h.parent)
    where
      by_test : (t : Bool) → (if t then record h { parent = parent_at caps s } else h).cap ≡ h.cap
      by_test true = refl
      by_test false = refl

-- more steps reach no more, where there are as many steps as ranks below
module _ (s : ℕ) (caps : List Seat) (f : IsForest caps) where
  abbrev pub rank : ℕ → ℕ
  rank = f.roots.0

  abbrev steps_of : Option ℕ → ℕ
  steps_of None = 0
  steps_of (Some p) = 1 + below rank (rank p) caps

  fewer : (h : Seat) → (o : Option ℕ) → IfSome o (λ p. is_used caps p ≡ true) → IfSome o (λ p. rank p < rank h.slot) → steps_of o ≤ below rank (rank h.slot) caps
  fewer h None u l = omega arith
  fewer h (Some q) u l =
      let w = used_seat caps q u in
      let e : rank w.0.slot ≡ rank q = ap rank w.1.slot_is in
      let a = below_less rank (rank q) (rank h.slot) caps w.0 w.1.place w.1.there (omega (arith, e)) (omega (arith, e, l)) in
      omega (arith, a)

  parent_of : (p : ℕ) (h : Seat) → IsSeat caps p h → parent_at caps p ≡ h.parent
  parent_of p h i = ap parent_in i.found

  enough : (n : ℕ) (o : Option ℕ) → IfSome o (λ p. is_used caps p ≡ true) → steps_of o ≤ n → reaches_in (suc n) caps s o ≡ reaches_in n caps s o
  enough zero None u l = refl
  enough zero (Some p) u l = absurd (omega (arith, l))
  enough (suc n) None u l = refl
  enough (suc n) (Some p) u l =
      let w = used_seat caps p u in
      let e = parent_of p w.0 w.1 in
      let r : rank w.0.slot ≡ rank p = ap rank w.1.slot_is in
      let a = fewer w.0 w.0.parent (f.parents w.1.place w.0 w.1.there) (f.roots.1 w.1.place w.0 w.1.there) in
      let b : below rank (rank w.0.slot) caps ≡ below rank (rank p) caps = ap (λ q. below rank q caps) r in
      let more : reaches_in (suc n) caps s w.0.parent ≡ reaches_in n caps s w.0.parent = enough n w.0.parent (f.parents w.1.place w.0 w.1.there) (omega (arith, a, b, l)) in
      ap (λ t. (p == s) || t) (subst (λ o. reaches_in (suc n) caps s o ≡ reaches_in n caps s o) (sym e) more)

  -- where a slot does not reach s, its parent does not
  parent_clears : (p : ℕ) (g : Seat) → IsSeat caps p g → reaches_in (length caps) caps s (Some p) ≡ false → reaches caps g s ≡ false
  parent_clears p g i c =
      let r : rank g.slot ≡ rank p = ap rank i.slot_is in
      let l = below_some rank (rank p) caps g i.place i.there (omega (arith, r)) in
      let u : is_used caps p ≡ true = ap is_some i.found in
      let more = enough (length caps) (Some p) u (omega (arith, l)) in
      let both = or_parts (p == s) (reaches_in (length caps) caps s (parent_at caps p)) (more ∙ c) in
      ap (reaches_in (length caps) caps s) (sym (parent_of p g i)) ∙ both.1

  stays_used : (o : Option ℕ) → IfSome o (λ p. is_used caps p ≡ true) → reaches_in (length caps) caps s o ≡ false → IfSome o (λ p. is_used (after_revoke s caps) p ≡ true)
  unfolding after_revoke
  stays_used None u c = tt
  stays_used (Some p) u c =
      let w = used_seat caps p u in
      let k : not (reaches caps w.0 s) ≡ true = ap not (parent_clears p w.0 w.1 c) in
      ap is_some (found_kept (λ (h : Seat). not (reaches caps h s)) p caps w.0 k w.1.found)

  cleared : (t : Bool) → not t ≡ true → t ≡ false
  cleared true h = absurd cc
  cleared false h = refl

  pub revoked_forest : IsForest (after_revoke s caps)
  unfolding after_revoke
  revoked_forest = record {
    ascending = ascends_filter seat_slot (λ (h : Seat). not (reaches caps h s)) caps f.ascending;
    parents = λ i h e. (let w = was_there (λ (h : Seat). not (reaches caps h s)) caps h i e in stays_used h.parent (f.parents w.1.0 h w.1.1) (cleared _ w.0));
    roots = (f.roots.0, each_filter (λ (h : Seat). IfSome h.parent (λ p. rank p < rank h.slot)) (λ (h : Seat). not (reaches caps h s)) caps f.roots.1);
  }

  -- what is left after one goes

  survives : (p : ℕ) → is_used caps p ≡ true → (p ≡ s → ⊥) → is_used (after_delete s caps) p ≡ true
  unfolding after_delete
  survives p u n =
      let w = used_seat caps p u in
      let k : stands s caps w.0 ≡ true = ap not (other_is w.0.slot s (λ e. n (sym w.1.slot_is ∙ e))) in
      let g = in_filter (stands s caps) caps w.0 k w.1.place w.1.there in
      let m = in_map (adopted s caps) (filter (stands s caps) caps) w.0 g in
      subst (λ q. is_used (map (adopted s caps) (filter (stands s caps) caps)) q ≡ true) (adopted_slot s caps w.0 ∙ w.1.slot_is) (there_used (map (adopted s caps) (filter (stands s caps) caps)) (adopted s caps w.0) m.0 m.1)

  -- the parent of s, if it has one, is another slot that stays and has a lower rank
  grandparent : (o : Option Seat) → seat_at caps s ≡ o → (top : ℕ) → rank s < top → IfSome (parent_in o) (λ p. (is_used (after_delete s caps) p ≡ true) × (rank p < top))
  grandparent None q top l = tt
  grandparent (Some g) q top l =
      let w = seat_found caps s g q in
      by_parent g.parent (f.parents w.0.0 g w.0.1) (let r = f.roots.1 w.0.0 g w.0.1 in subst (λ v. IfSome g.parent (λ p. rank p < rank v)) w.1 r)
    where
      by_parent : (o : Option ℕ) → IfSome o (λ p. is_used caps p ≡ true) → IfSome o (λ p. rank p < rank s) → IfSome o (λ p. (is_used (after_delete s caps) p ≡ true) × (rank p < top))
      by_parent None u r = tt
      by_parent (Some p) u r = (survives p u (λ e. (let z = ap rank e in omega (arith, z, r))), omega (arith, r, l))

  after_by : (h : Seat) → (o : Option ℕ) → IfSome o (λ p. is_used caps p ≡ true) → IfSome o (λ p. rank p < rank h.slot) →
      IfSome (if is_number s o then record h { parent = parent_at caps s } else record h { parent = o }).parent (λ p. (is_used (after_delete s caps) p ≡ true) × (rank p < rank h.slot))
  after_by h None u r = tt
  after_by h (Some p) u r = by_test (p == s) refl
    where
      by_test : (t : Bool) → (p == s) ≡ t → IfSome (if t then record h { parent = parent_at caps s } else record h { parent = Some p }).parent (λ p. (is_used (after_delete s caps) p ≡ true) × (rank p < rank h.slot))
      by_test true q = grandparent (seat_at caps s) refl (rank h.slot) (subst (λ v. rank v < rank h.slot) (is_same p s q) r)
      by_test false q = (survives p u (not_same p s q), r)

  both_parts : (o : Option ℕ) (P Q : ℕ → Type 0) → IfSome o (λ p. P p × Q p) → IfSome o P × IfSome o Q
  both_parts None P Q h = (tt, tt)
  both_parts (Some p) P Q h = (h.0, h.1)

  after_one : (i : ℕ) (k : Seat) → slice_get (after_delete s caps) i ≡ Some k → IfSome k.parent (λ p. (is_used (after_delete s caps) p ≡ true) × (rank p < rank k.slot))
  unfolding after_delete
  after_one i k e =
      let m = map_there (adopted s caps) (filter (stands s caps) caps) i k e in
      let w = was_there (stands s caps) caps m.0 i m.1 in
      let done = after_by m.0 m.0.parent (f.parents w.1.0 m.0 w.1.1) (f.roots.1 w.1.0 m.0 w.1.1) in
      subst (λ (v : Seat). IfSome v.parent (λ p. (is_used (after_delete s caps) p ≡ true) × (rank p < rank v.slot))) (sym m.2)
      (subst (λ n. IfSome (adopted s caps m.0).parent (λ p. (is_used (after_delete s caps) p ≡ true) × (rank p < rank n))) (sym (adopted_slot s caps m.0)) done)

  ascends_after : Ascends seat_slot (after_delete s caps)
  unfolding after_delete
  ascends_after = ascends_map seat_slot (adopted s caps) (adopted_slot s caps) (filter (stands s caps) caps) (ascends_filter seat_slot (stands s caps) caps f.ascending)

  pub deleted_forest : IsForest (after_delete s caps)
  deleted_forest = record {
    ascending = ascends_after;
    parents = λ i k e. (both_parts k.parent (λ p. is_used (after_delete s caps) p ≡ true) (λ p. rank p < rank k.slot) (after_one i k e)).0;
    roots = (rank, λ i k e. (both_parts k.parent (λ p. is_used (after_delete s caps) p ≡ true) (λ p. rank p < rank k.slot) (after_one i k e)).1);
  }

-- all of a line go
deleted_all : (slots : List ℕ) (caps : List Seat) → IsForest caps → IsForest (fold (λ caps s. after_delete s caps) caps slots)
deleted_all [] caps f = f
deleted_all (s ∷ ss) caps f = deleted_all ss (after_delete s caps) (deleted_forest s caps f)

pub given_forest : (l : ℕ) (caps : List Seat) → IsForest caps → IsForest (without_line l caps)
unfolding without_line
given_forest l caps f = deleted_all (slots_of_line l caps) caps f
