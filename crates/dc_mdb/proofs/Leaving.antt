-- What is left after a slot goes.
use Rattle.std.proofs.Common.{◌≡◌, ℕ, ◌<◌, List, Bool, true, false, Option, Some, None, refl, sym, ap, ◌∙◌, subst, arith, map}
use Rattle.std.specs.Prelude.{slice_get, ◌==◌, not, if◌then◌else◌, filter, IfSome}
use Rattle.dc_base.specs.Words.{is_number}
use Rattle.dc_mdb.specs.Forests.{Node, node_at, has_slot, parent_in, parent_at, with_parent, without_slot}
use Rattle.dc_base.proofs.Ascending.{was_there}
use Rattle.dc_mdb.proofs.Elements.{other_is, is_same, not_same, in_filter, in_map, map_there}
use Rattle.dc_mdb.proofs.Nodes.{used_node, there_used, node_found}
use Rattle.dc_mdb.proofs.Rooted.{IsRooted}

module _ (s : ℕ) (nodes : List Node) where
  -- one goes, and its children get its parent

  abbrev pub adopted : Node → Node
  adopted h = with_parent s (parent_at nodes s) h

  abbrev pub stands : Node → Bool
  stands h = not (h.0 == s)

  pub adopted_slot : (h : Node) → (adopted h).0 ≡ h.0
  adopted_slot h = by_test (is_number s h.1)
    where
      by_test : (t : Bool) → (if◌then◌else◌ {A = Node} t (h.0, parent_at nodes s) h).0 ≡ h.0
      by_test true = refl
      by_test false = refl

module _ (s : ℕ) (nodes : List Node) (f : IsRooted nodes) where
  abbrev rank : ℕ → ℕ
  rank = f.roots.0

  -- what is left after one goes

  survives : (p : ℕ) → has_slot nodes p ≡ true → (p ≡ s → ⊥) → has_slot (without_slot s nodes) p ≡ true
  survives p u n =
      let w = used_node nodes p u in
      let k : stands s nodes w.0 ≡ true = ap not (other_is w.0.0 s (λ e. n (sym w.1.slot_is ∙ e))) in
      let g = in_filter (stands s nodes) nodes w.0 k w.1.place w.1.there in
      let m = in_map (adopted s nodes) (filter (stands s nodes) nodes) w.0 g in
      subst (λ q. has_slot (map (adopted s nodes) (filter (stands s nodes) nodes)) q ≡ true) (adopted_slot s nodes w.0 ∙ w.1.slot_is) (there_used (map (adopted s nodes) (filter (stands s nodes) nodes)) (adopted s nodes w.0) m.0 m.1)

  -- the parent of s, if it has one, is another slot that stays and has a lower rank
  grandparent : (o : Option Node) → node_at nodes s ≡ o → (top : ℕ) → rank s < top → IfSome (parent_in o) (λ p. (has_slot (without_slot s nodes) p ≡ true) × (rank p < top))
  grandparent None q top l = tt
  grandparent (Some g) q top l =
      let w = node_found nodes s g q in
      by_parent g.1 (f.parents w.0.0 g w.0.1) (let r = f.roots.1 w.0.0 g w.0.1 in subst (λ v. IfSome g.1 (λ p. rank p < rank v)) w.1 r)
    where
      by_parent : (o : Option ℕ) → IfSome o (λ p. has_slot nodes p ≡ true) → IfSome o (λ p. rank p < rank s) → IfSome o (λ p. (has_slot (without_slot s nodes) p ≡ true) × (rank p < top))
      by_parent None u r = tt
      by_parent (Some p) u r = (survives p u (λ e. (let z = ap rank e in omega (arith, z, r))), omega (arith, r, l))

  after_by : (h : Node) → (o : Option ℕ) → IfSome o (λ p. has_slot nodes p ≡ true) → IfSome o (λ p. rank p < rank h.0) →
      IfSome (with_parent s (parent_at nodes s) (h.0, o)).1 (λ p. (has_slot (without_slot s nodes) p ≡ true) × (rank p < rank h.0))
  after_by h None u r = tt
  after_by h (Some p) u r = by_test (p == s) refl
    where
      by_test : (t : Bool) → (p == s) ≡ t → IfSome (if◌then◌else◌ {A = Node} t (h.0, parent_at nodes s) (h.0, Some p)).1 (λ p. (has_slot (without_slot s nodes) p ≡ true) × (rank p < rank h.0))
      by_test true q = grandparent (node_at nodes s) refl (rank h.0) (subst (λ v. rank v < rank h.0) (is_same p s q) r)
      by_test false q = (survives p u (not_same p s q), r)

  both_parts : (o : Option ℕ) (P Q : ℕ → Type 0) → IfSome o (λ p. P p × Q p) → IfSome o P × IfSome o Q
  both_parts None P Q h = (tt, tt)
  both_parts (Some p) P Q h = (h.0, h.1)

  after_one : (i : ℕ) (k : Node) → slice_get (without_slot s nodes) i ≡ Some k → IfSome k.1 (λ p. (has_slot (without_slot s nodes) p ≡ true) × (rank p < rank k.0))
  after_one i k e =
      let m = map_there (adopted s nodes) (filter (stands s nodes) nodes) i k e in
      let w = was_there (stands s nodes) nodes m.0 i m.1 in
      let done = after_by m.0 m.0.1 (f.parents w.1.0 m.0 w.1.1) (f.roots.1 w.1.0 m.0 w.1.1) in
      subst (λ (v : Node). IfSome v.1 (λ p. (has_slot (without_slot s nodes) p ≡ true) × (rank p < rank v.0))) (sym m.2)
      (subst (λ n. IfSome (adopted s nodes m.0).1 (λ p. (has_slot (without_slot s nodes) p ≡ true) × (rank p < rank n))) (sym (adopted_slot s nodes m.0)) done)

  pub removed_rooted : IsRooted (without_slot s nodes)
  removed_rooted = record {
    parents = λ i k e. (both_parts k.1 (λ p. has_slot (without_slot s nodes) p ≡ true) (λ p. rank p < rank k.0) (after_one i k e)).0;
    roots = (rank, λ i k e. (both_parts k.1 (λ p. has_slot (without_slot s nodes) p ≡ true) (λ p. rank p < rank k.0) (after_one i k e)).1);
  }
