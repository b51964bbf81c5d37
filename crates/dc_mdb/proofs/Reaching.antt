-- More steps reach no more than there are slots, and what is left after all that reach a slot go.
use Rattle.std.proofs.Common.{◌≡◌, ℕ, zero, suc, ◌+◌, ◌-◌, ◌<◌, ◌≤◌, List, [], ◌∷◌, Bool, true, false, Option, Some, None, refl, sym, ap, ◌∙◌, subst, arith, length}
use Rattle.std.specs.Prelude.{◌==◌, ◌||◌, not, if◌then◌else◌, filter, IfSome, is_some}
use Rattle.std.proofs.lemmas.Bool.{or_parts}
use Rattle.dc_mdb.specs.Forests.{Node, node_at, has_slot, parent_in, parent_at, reaches_in, reaches, without_descendants}
use Rattle.dc_base.proofs.Ascending.{was_there, each_filter}
use Rattle.dc_mdb.proofs.Nodes.{IsNode, used_node}
use Rattle.dc_mdb.proofs.Ranks.{below, below_less, below_some}
use Rattle.dc_mdb.proofs.Rooted.{IsRooted}

-- what is found and kept is found again

found_by : (keep : Node → Bool) (p : ℕ) (x : Node) (xs : List Node) (h : Node) → keep h ≡ true → (node_at xs p ≡ Some h → node_at (filter keep xs) p ≡ Some h) → (t : Bool) → (x.0 == p) ≡ t →
    (if t then Some x else node_at xs p) ≡ Some h → (u : Bool) → keep x ≡ u → node_at (if u then x ∷ filter keep xs else filter keep xs) p ≡ Some h
found_by keep p x xs h k more true q e true r = ap (λ t. if t then Some x else node_at (filter keep xs) p) q ∙ e
found_by keep p x xs h k more true q e false r = let same : x ≡ h = cc in let z : true ≡ false = sym k ∙ ap keep (sym same) ∙ r in absurd cc
found_by keep p x xs h k more false q e true r = ap (λ t. if t then Some x else node_at (filter keep xs) p) q ∙ more e
found_by keep p x xs h k more false q e false r = more e

found_kept : (keep : Node → Bool) (p : ℕ) (xs : List Node) (h : Node) → keep h ≡ true → node_at xs p ≡ Some h → node_at (filter keep xs) p ≡ Some h
found_kept keep p [] h k e = absurd cc
found_kept keep p (x ∷ xs) h k e = found_by keep p x xs h k (λ g. found_kept keep p xs h k g) (x.0 == p) refl e (keep x) refl

-- more steps reach no more, where there are as many steps as ranks below
module _ (s : ℕ) (nodes : List Node) (f : IsRooted nodes) where
  abbrev pub rank : ℕ → ℕ
  rank = f.roots.0

  abbrev steps_of : Option ℕ → ℕ
  steps_of None = 0
  steps_of (Some p) = 1 + below rank (rank p) nodes

  fewer : (h : Node) → (o : Option ℕ) → IfSome o (λ p. has_slot nodes p ≡ true) → IfSome o (λ p. rank p < rank h.0) → steps_of o ≤ below rank (rank h.0) nodes
  fewer h None u l = omega arith
  fewer h (Some q) u l =
      let w = used_node nodes q u in
      let e : rank w.0.0 ≡ rank q = ap rank w.1.slot_is in
      let a = below_less rank (rank q) (rank h.0) nodes w.0 w.1.place w.1.there (omega (arith, e)) (omega (arith, e, l)) in
      omega (arith, a)

  parent_of : (p : ℕ) (h : Node) → IsNode nodes p h → parent_at nodes p ≡ h.1
  parent_of p h i = ap parent_in i.found

  enough : (n : ℕ) (o : Option ℕ) → IfSome o (λ p. has_slot nodes p ≡ true) → steps_of o ≤ n → reaches_in (suc n) nodes s o ≡ reaches_in n nodes s o
  enough zero None u l = refl
  enough zero (Some p) u l = absurd (omega (arith, l))
  enough (suc n) None u l = refl
  enough (suc n) (Some p) u l =
      let w = used_node nodes p u in
      let e = parent_of p w.0 w.1 in
      let r : rank w.0.0 ≡ rank p = ap rank w.1.slot_is in
      let a = fewer w.0 w.0.1 (f.parents w.1.place w.0 w.1.there) (f.roots.1 w.1.place w.0 w.1.there) in
      let b : below rank (rank w.0.0) nodes ≡ below rank (rank p) nodes = ap (λ q. below rank q nodes) r in
      let more : reaches_in (suc n) nodes s w.0.1 ≡ reaches_in n nodes s w.0.1 = enough n w.0.1 (f.parents w.1.place w.0 w.1.there) (omega (arith, a, b, l)) in
      ap (λ t. (p == s) || t) (subst (λ o. reaches_in (suc n) nodes s o ≡ reaches_in n nodes s o) (sym e) more)

  most : (o : Option ℕ) → IfSome o (λ p. has_slot nodes p ≡ true) → steps_of o ≤ length nodes
  most None u = omega arith
  most (Some p) u =
      let w = used_node nodes p u in
      let r : rank w.0.0 ≡ rank p = ap rank w.1.slot_is in
      let l = below_some rank (rank p) nodes w.0 w.1.place w.1.there (omega (arith, r)) in
      omega (arith, l)

  reaches_by : (k n : ℕ) (o : Option ℕ) → IfSome o (λ p. has_slot nodes p ≡ true) → n ≡ length nodes + k → reaches_in n nodes s o ≡ reaches_in (length nodes) nodes s o
  reaches_by zero n o u e = let q : n ≡ length nodes = omega (arith, e) in ap (λ m. reaches_in m nodes s o) q
  reaches_by (suc k) n o u e =
      let q : n ≡ suc (length nodes + k) = omega (arith, e) in
      let l = most o u in
      ap (λ m. reaches_in m nodes s o) q ∙ enough (length nodes + k) o u (omega (arith, l)) ∙ reaches_by k (length nodes + k) o u refl

  -- any number of steps from that of the slots on reaches the same
  pub reaches_same : (n : ℕ) (o : Option ℕ) → IfSome o (λ p. has_slot nodes p ≡ true) → length nodes ≤ n → reaches_in n nodes s o ≡ reaches_in (length nodes) nodes s o
  reaches_same n o u l = let e : n ≡ length nodes + (n - length nodes) = omega (arith, l) in reaches_by (n - length nodes) n o u e

  -- where a slot does not reach s, its parent does not
  parent_clears : (p : ℕ) (g : Node) → IsNode nodes p g → reaches_in (length nodes) nodes s (Some p) ≡ false → reaches nodes s g ≡ false
  parent_clears p g i c =
      let r : rank g.0 ≡ rank p = ap rank i.slot_is in
      let l = below_some rank (rank p) nodes g i.place i.there (omega (arith, r)) in
      let u : has_slot nodes p ≡ true = ap is_some i.found in
      let more = enough (length nodes) (Some p) u (omega (arith, l)) in
      let both = or_parts (p == s) (reaches_in (length nodes) nodes s (parent_at nodes p)) (more ∙ c) in
      ap (reaches_in (length nodes) nodes s) (sym (parent_of p g i)) ∙ both.1

  stays_used : (o : Option ℕ) → IfSome o (λ p. has_slot nodes p ≡ true) → reaches_in (length nodes) nodes s o ≡ false → IfSome o (λ p. has_slot (without_descendants s nodes) p ≡ true)
  stays_used None u c = tt
  stays_used (Some p) u c =
      let w = used_node nodes p u in
      let k : not (reaches nodes s w.0) ≡ true = ap not (parent_clears p w.0 w.1 c) in
      ap is_some (found_kept (λ (h : Node). not (reaches nodes s h)) p nodes w.0 k w.1.found)

  cleared : (t : Bool) → not t ≡ true → t ≡ false
  cleared true h = absurd cc
  cleared false h = refl

  pub pruned_rooted : IsRooted (without_descendants s nodes)
  pruned_rooted = record {
    parents = λ i h e. (let w = was_there (λ (h : Node). not (reaches nodes s h)) nodes h i e in stays_used h.1 (f.parents w.1.0 h w.1.1) (cleared _ w.0));
    roots = (f.roots.0, each_filter (λ (h : Node). IfSome h.1 (λ p. rank p < rank h.0)) (λ (h : Node). not (reaches nodes s h)) nodes f.roots.1);
  }
