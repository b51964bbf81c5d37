-- What a table keeps.
use Rattle.std.proofs.Common.{◌≡◌, ℕ, zero, suc, ◌+◌, ◌*◌, ◌<◌, ◌≤◌, List, [], ◌∷◌, Bool, true, false, Option, Some, None, refl, sym, ap, ◌∙◌, subst, arith, length, replicate}
use Rattle.std.specs.Prelude.{slice_index_or, slice_set, slice_get, ◌==◌, not, if◌then◌else◌, filter, IfSome}
use Rattle.dc_base.specs.declared.capabilities.Cap.{Cap}
use Rattle.dc_base.specs.Words.{Each, is_number}
use Rattle.dc_base.specs.Capabilities.{Seat, is_used}
use Rattle.std.proofs.lemmas.Nat.{and_le_l}
use Rattle.std.proofs.lemmas.List.{length-map}
use Rattle.std.proofs.lemmas.List.Filters.{length-filter_both}
use Rattle.dc_base.specs.Kernel.{with_mask}
use Rattle.dc_base.proofs.EachLaws.{each_nil, each_cons, each-set}
use Rattle.dc_mdb.specs.Forests as forest
use Rattle.dc_mdb.specs.Forests.{Node, has_slot, with_node, without_slot, without_descendants, IsForest}
use Rattle.dc_base.proofs.Ascending.{each_filter}
use Rattle.dc_mdb.proofs.Elements.{map_there}
use Rattle.dc_mdb.proofs.Nodes.{each_put}
use Rattle.dc_caps.specs.Caps.{IsCap, IsTable}
use Rattle.dc_caps.specs.Seats.{no_cap, seat_of, seats_of}
use Rattle.dc_caps.specs.Tables.{IsWithin}
use Rattle.dc_caps.specs.declared.table.Table.TheInside.{Inside}
use Rattle.dc_caps.proofs.Seating.{used_seats}

abbrev pub AreCaps : List Cap → Type 0
AreCaps caps = Each caps (λ i cap. IsCap cap)

pub no_cap_is : IsCap no_cap
no_cap_is = record { rights = omega arith; range = tt }

pub caps_at : (caps : List Cap) → AreCaps caps → (s : ℕ) → IsCap (slice_index_or caps s no_cap)
caps_at [] h s = no_cap_is
caps_at (c ∷ cs) h zero = h 0 c refl
caps_at (c ∷ cs) h (suc s) = caps_at cs (λ i cap e. h (suc i) cap e) s

pub replicated : (n : ℕ) (cap : Cap) → IsCap cap → AreCaps (replicate n cap)
replicated zero cap h = each_nil (λ i cap. IsCap cap)
replicated (suc n) cap h = each_cons (λ i cap. IsCap cap) cap (replicate n cap) h (replicated n cap h)

module _ (caps : List Cap) (nodes : List Node) where
  each_seat : (P : Seat → Type 0) → Each nodes (λ i n. P (seat_of caps n)) → Each (seats_of caps nodes) (λ i. P)
  each_seat P h i k e = let m = map_there (seat_of caps) nodes i k e in subst P (sym m.2) (h i m.0 m.1)

  used_parent : (o : Option ℕ) → IfSome o (λ p. has_slot nodes p ≡ true) → IfSome o (λ p. is_used (seats_of caps nodes) p ≡ true)
  used_parent None u = tt
  used_parent (Some p) u = used_seats caps nodes p ∙ u

  ascends : IsForest nodes → (i j : ℕ) (h k : Seat) → i < j → slice_get (seats_of caps nodes) i ≡ Some h → slice_get (seats_of caps nodes) j ≡ Some k → h.slot < k.slot
  ascends f i j h k l d e =
      let m = map_there (seat_of caps) nodes i h d in
      let n = map_there (seat_of caps) nodes j k e in
      let lt = f.ascending i j m.0 n.0 l m.1 n.1 in
      let p : h.slot ≡ m.0.0 = ap (λ (v : Seat). v.slot) m.2 in
      let q : k.slot ≡ n.0.0 = ap (λ (v : Seat). v.slot) n.2 in
      omega (arith, lt, p, q)

  pub table_of : (disps : ℕ) → 0 < disps → disps ≤ 16 → AreCaps caps → Each nodes (λ i (n : Node). n.0 < 16 * disps) → IsForest nodes → IsTable (record { set = seats_of caps nodes; disps = disps })
  table_of disps some most are slots f = record {
    some = some;
    disps = most;
    ascending = ascends f;
    slots = each_seat (λ h. h.slot < 16 * disps) slots;
    caps = each_seat (λ h. IsCap h.cap) (λ i n e. caps_at caps are n.0);
    parents = each_seat (λ h. IfSome h.parent (λ p. is_used (seats_of caps nodes) p ≡ true)) (λ i n e. used_parent n.1 (f.parents i n e));
    roots = (f.roots.0, each_seat (λ h. IfSome h.parent (λ p. f.roots.0 p < f.roots.0 h.slot)) f.roots.1);
  }

-- the fields after a change

pub new_within : (n disps : ℕ) → 0 < disps → disps ≤ 16 → IsWithin (record { caps = replicate n no_cap; forest = []; disps = disps })
new_within n disps some most = record { some = some; disps = most; caps = replicated n no_cap no_cap_is; slots = each_nil (λ i (n : Node). n.0 < 16 * disps) }

module _ (t : Inside) (w : IsWithin t) where
  pub put_within : (s : ℕ) (cap : Cap) (o : Option ℕ) → IsCap cap → s < 16 * t.disps → IsWithin (record t { caps = slice_set t.caps s cap; forest = with_node (s, o) t.forest })
  put_within s cap o c l = record {
    some = w.some;
    disps = w.disps;
    caps = each-set (λ i cap. IsCap cap) t.caps s cap w.caps c;
    slots = each_put (s, o) (λ (n : Node). n.0 < 16 * t.disps) t.forest l w.slots;
  }

  fewer : (nodes : List Node) → Each nodes (λ i (n : Node). n.0 < 16 * t.disps) → IsWithin (record t { forest = nodes })
  fewer nodes slots = record { some = w.some; disps = w.disps; caps = w.caps; slots = slots }

  same_slot : (s : ℕ) (o : Option ℕ) (n : Node) → n.0 < 16 * t.disps → (forest.with_parent s o n).0 < 16 * t.disps
  same_slot s o n l = by_test (is_number s n.1)
    where
      by_test : (u : Bool) → (if◌then◌else◌ {A = Node} u (n.0, o) n).0 < 16 * t.disps
      by_test true = l
      by_test false = l

  pub deleted_within : (s : ℕ) → IsWithin (record t { forest = without_slot s t.forest })
  deleted_within s = fewer (without_slot s t.forest) (λ i n e. (
      let kept = filter (λ (n : Node). not (n.0 == s)) t.forest in
      let m = map_there (forest.with_parent s (forest.parent_at t.forest s)) kept i n e in
      let l = each_filter (λ (n : Node). n.0 < 16 * t.disps) (λ (n : Node). not (n.0 == s)) t.forest w.slots i m.0 m.1 in
      subst (λ (v : Node). v.0 < 16 * t.disps) (sym m.2) (same_slot s (forest.parent_at t.forest s) m.0 l)))

  pub revoked_within : (s : ℕ) → IsWithin (record t { forest = without_descendants s t.forest })
  revoked_within s = fewer (without_descendants s t.forest) (each_filter (λ (n : Node). n.0 < 16 * t.disps) (λ (n : Node). not (forest.reaches t.forest s n)) t.forest w.slots)

pub masked_is : (cap : Cap) (mask : ℕ) → IsCap cap → IsCap (with_mask mask cap)
masked_is cap mask h = let l = and_le_l cap.rights mask in let r = h.rights in record { rights = omega (arith, l, r); range = h.range }

-- those that go and those that stay are all
pub revoked_count : (caps : List Cap) (nodes : List Node) (s : ℕ) → length (forest.descendants nodes s) + length (seats_of caps (without_descendants s nodes)) ≡ length (seats_of caps nodes)
revoked_count caps nodes s =
    let a = length-map (filter (forest.reaches nodes s) nodes) (λ (n : Node). n.0) in
    let b = length-map (without_descendants s nodes) (seat_of caps) in
    let c = length-map nodes (seat_of caps) in
    let d = length-filter_both (forest.reaches nodes s) (λ (n : Node). not (forest.reaches nodes s n)) (λ n. refl) nodes in
    omega (arith, a, b, c, d)
