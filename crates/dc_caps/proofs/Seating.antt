-- The slots of a forest with their capabilities, read and changed.
use Rattle.std.proofs.Common.{◌≡◌, ℕ, zero, suc, ◌<◌, List, [], ◌∷◌, Bool, true, false, Option, Some, None, refl, sym, ap, ◌∙◌, arith, length, map}
use Rattle.std.specs.Prelude.{slice_index_or, slice_set, nat_lt, ◌==◌, ◌||◌, not, if◌then◌else◌, filter, is_some}
use Rattle.std.specs.Option.{option_map}
use Rattle.std.proofs.lemmas.List.{length-map}
use Rattle.dc_base.specs.declared.capabilities.Cap.{Cap}
use Rattle.dc_base.specs.Words.{is_number}
use Rattle.dc_base.specs.Capabilities as spec
use Rattle.dc_base.specs.Capabilities.{Seat, seat_at, cap_at, is_used, parent_in, with_seat, with_parent, after_revoke, after_delete}
use Rattle.dc_mdb.specs.Forests as forest
use Rattle.dc_mdb.specs.Forests.{Node, node_at, has_slot, with_node, without_slot, without_descendants}
use Rattle.dc_mdb.proofs.Elements.{is_same, not_same}
use Rattle.dc_caps.specs.Seats.{no_cap, seat_of, seats_of}

module _ (caps : List Cap) where
  seat_found : (nodes : List Node) (s : ℕ) → seat_at (seats_of caps nodes) s ≡ option_map (seat_of caps) (node_at nodes s)
  seat_found [] s = refl
  seat_found (n ∷ ns) s = by_test (n.0 == s) (seat_found ns s)
    where
      by_test : (t : Bool) → seat_at (seats_of caps ns) s ≡ option_map (seat_of caps) (node_at ns s) → (if t then Some (seat_of caps n) else seat_at (seats_of caps ns) s) ≡ option_map (seat_of caps) (if t then Some n else node_at ns s)
      by_test true e = refl
      by_test false e = e

  pub used_seats : (nodes : List Node) (s : ℕ) → is_used (seats_of caps nodes) s ≡ has_slot nodes s
  used_seats nodes s = ap is_some (seat_found nodes s) ∙ by_node (node_at nodes s)
    where
      by_node : (o : Option Node) → is_some (option_map (seat_of caps) o) ≡ is_some o
      by_node None = refl
      by_node (Some n) = refl

  pub parent_seats : (nodes : List Node) (s : ℕ) → spec.parent_at (seats_of caps nodes) s ≡ forest.parent_at nodes s
  parent_seats nodes s = ap parent_in (seat_found nodes s) ∙ by_node (node_at nodes s)
    where
      by_node : (o : Option Node) → parent_in (option_map (seat_of caps) o) ≡ forest.parent_in o
      by_node None = refl
      by_node (Some n) = refl

  pub cap_seats : (nodes : List Node) (s : ℕ) → cap_at (seats_of caps nodes) s ≡ (if has_slot nodes s then Some (slice_index_or caps s no_cap) else None)
  cap_seats [] s = refl
  cap_seats (n ∷ ns) s = by_test (n.0 == s) refl (cap_seats ns s)
    where
      by_test : (t : Bool) → (n.0 == s) ≡ t → cap_at (seats_of caps ns) s ≡ (if has_slot ns s then Some (slice_index_or caps s no_cap) else None) →
          option_map (λ (h : Seat). h.cap) (if t then Some (seat_of caps n) else seat_at (seats_of caps ns) s) ≡ (if is_some (if t then Some n else node_at ns s) then Some (slice_index_or caps s no_cap) else None)
      by_test true q e = ap (λ k. Some (slice_index_or caps k no_cap)) (is_same n.0 s q)
      by_test false q e = e

  -- going up

  reaches_seats : (k : ℕ) (nodes : List Node) (s : ℕ) (o : Option ℕ) → spec.reaches_in k (seats_of caps nodes) s o ≡ forest.reaches_in k nodes s o
  reaches_seats zero nodes s o = refl
  reaches_seats (suc k) nodes s None = refl
  reaches_seats (suc k) nodes s (Some p) = ap (λ t. p == s || t) (ap (spec.reaches_in k (seats_of caps nodes) s) (parent_seats nodes p) ∙ reaches_seats k nodes s (forest.parent_at nodes p))

  kept_seats : (p : Seat → Bool) (q : Node → Bool) → ((n : Node) → p (seat_of caps n) ≡ q n) → (nodes : List Node) → filter p (seats_of caps nodes) ≡ seats_of caps (filter q nodes)
  kept_seats p q same [] = refl
  kept_seats p q same (n ∷ ns) = ap (λ t. if t then seat_of caps n ∷ filter p (seats_of caps ns) else filter p (seats_of caps ns)) (same n) ∙ by_test (q n) (kept_seats p q same ns)
    where
      by_test : (t : Bool) → filter p (seats_of caps ns) ≡ seats_of caps (filter q ns) → (if t then seat_of caps n ∷ filter p (seats_of caps ns) else filter p (seats_of caps ns)) ≡ seats_of caps (if t then n ∷ filter q ns else filter q ns)
      by_test true e = ap (λ hs. seat_of caps n ∷ hs) e
      by_test false e = e

  pub revoked_seats : (nodes : List Node) (s : ℕ) → seats_of caps (without_descendants s nodes) ≡ after_revoke s (seats_of caps nodes)
  unfolding after_revoke
  revoked_seats nodes s = sym (kept_seats (λ (h : Seat). not (spec.reaches (seats_of caps nodes) h s)) (λ (n : Node). not (forest.reaches nodes s n)) same nodes)
    where
      same : (n : Node) → not (spec.reaches (seats_of caps nodes) (seat_of caps n) s) ≡ not (forest.reaches nodes s n)
      same n = ap not (ap (λ k. spec.reaches_in k (seats_of caps nodes) s n.1) (length-map nodes (seat_of caps)) ∙ reaches_seats (length nodes) nodes s n.1)

  moved_seats : (s : ℕ) (o : Option ℕ) (nodes : List Node) → map (with_parent s o) (seats_of caps nodes) ≡ seats_of caps (map (forest.with_parent s o) nodes)
  moved_seats s o [] = refl
  moved_seats s o (n ∷ ns) = ap (λ h. h ∷ map (with_parent s o) (seats_of caps ns)) (by_test (is_number s n.1)) ∙ ap (λ hs. seat_of caps (forest.with_parent s o n) ∷ hs) (moved_seats s o ns)
    where
      by_test : (t : Bool) → (if t then record (seat_of caps n) { parent = o } else seat_of caps n) ≡ seat_of caps (if t then (n.0, o) else n)
      by_test true = refl
      by_test false = refl

  pub deleted_seats : (nodes : List Node) (s : ℕ) → seats_of caps (without_slot s nodes) ≡ after_delete s (seats_of caps nodes)
  unfolding after_delete
  deleted_seats nodes s =
      sym (moved_seats s (forest.parent_at nodes s) (filter (λ (n : Node). not (n.0 == s)) nodes))
      ∙ ap (λ o. map (with_parent s o) (seats_of caps (filter (λ (n : Node). not (n.0 == s)) nodes))) (sym (parent_seats nodes s))
      ∙ ap (map (with_parent s (spec.parent_at (seats_of caps nodes) s))) (sym (kept_seats (λ (h : Seat). not (h.slot == s)) (λ (n : Node). not (n.0 == s)) (λ n. refl) nodes))

-- one slot more

get_set_here : (caps : List Cap) (s : ℕ) (cap d : Cap) → s < length caps → slice_index_or (slice_set caps s cap) s d ≡ cap
get_set_here [] s cap d l = absurd (omega (arith, l))
get_set_here (c ∷ cs) zero cap d l = refl
get_set_here (c ∷ cs) (suc s) cap d l = get_set_here cs s cap d (omega (arith, l))

get_set_other : (caps : List Cap) (s k : ℕ) (cap d : Cap) → (k ≡ s → ⊥) → slice_index_or (slice_set caps s cap) k d ≡ slice_index_or caps k d
get_set_other [] s k cap d ne = refl
get_set_other (c ∷ cs) zero zero cap d ne = absurd (ne refl)
get_set_other (c ∷ cs) zero (suc k) cap d ne = refl
get_set_other (c ∷ cs) (suc s) zero cap d ne = refl
get_set_other (c ∷ cs) (suc s) (suc k) cap d ne = get_set_other cs s k cap d (λ e. ne (ap suc e))

or_none : (t : Bool) (o : Option Node) (n : Node) → is_some (if t then Some n else o) ≡ false → (t ≡ false) × (is_some o ≡ false)
or_none true o n h = absurd cc
or_none false o n h = (refl, h)

module _ (caps : List Cap) (s : ℕ) (cap : Cap) where
  same_seat : (n : Node) → (n.0 == s) ≡ false → seat_of (slice_set caps s cap) n ≡ seat_of caps n
  same_seat n h = ap (λ c. record { slot = n.0; cap = c; parent = n.1 }) (get_set_other caps s n.0 cap no_cap (not_same n.0 s h))

  same_seats : (nodes : List Node) → has_slot nodes s ≡ false → seats_of (slice_set caps s cap) nodes ≡ seats_of caps nodes
  same_seats [] h = refl
  same_seats (n ∷ ns) h =
      let both = or_none (n.0 == s) (node_at ns s) n h in
      ap (λ k. k ∷ seats_of (slice_set caps s cap) ns) (same_seat n both.0) ∙ ap (λ ks. seat_of caps n ∷ ks) (same_seats ns both.1)

  abbrev new_seat : Option ℕ → Seat
  new_seat o = record { slot = s; cap = cap; parent = o }

  new_is : (o : Option ℕ) → s < length caps → seat_of (slice_set caps s cap) (s, o) ≡ new_seat o
  new_is o l = ap (λ c. record { slot = s; cap = c; parent = o }) (get_set_here caps s cap no_cap l)

  pub put_seats : (nodes : List Node) (o : Option ℕ) → s < length caps → has_slot nodes s ≡ false → seats_of (slice_set caps s cap) (with_node (s, o) nodes) ≡ with_seat (new_seat o) (seats_of caps nodes)
  put_seats [] o l h = ap (λ k. k ∷ []) (new_is o l)
  put_seats (n ∷ ns) o l h = by_test (nat_lt s n.0) both (put_seats ns o l both.1)
    where
      both : ((n.0 == s) ≡ false) × (has_slot ns s ≡ false)
      both = or_none (n.0 == s) (node_at ns s) n h

      by_test : (t : Bool) → ((n.0 == s) ≡ false) × (has_slot ns s ≡ false) → seats_of (slice_set caps s cap) (with_node (s, o) ns) ≡ with_seat (new_seat o) (seats_of caps ns) →
          seats_of (slice_set caps s cap) (if t then (s, o) ∷ n ∷ ns else n ∷ with_node (s, o) ns) ≡ (if t then new_seat o ∷ seat_of caps n ∷ seats_of caps ns else seat_of caps n ∷ with_seat (new_seat o) (seats_of caps ns))
      by_test true b e =
          ap (λ k. k ∷ seats_of (slice_set caps s cap) (n ∷ ns)) (new_is o l)
          ∙ ap (λ k. new_seat o ∷ k ∷ seats_of (slice_set caps s cap) ns) (same_seat n b.0)
          ∙ ap (λ ks. new_seat o ∷ seat_of caps n ∷ ks) (same_seats ns b.1)
      by_test false b e = ap (λ k. k ∷ seats_of (slice_set caps s cap) (with_node (s, o) ns)) (same_seat n b.0) ∙ ap (λ ks. seat_of caps n ∷ ks) e
