-- The slots that are there, in order; and a forest without a slot stays as it is when that slot goes.
use Rattle.std.proofs.Common.{◌≡◌, ℕ, suc, ◌+◌, ◌<◌, List, [], ◌∷◌, ◌++◌, Bool, true, false, Option, Some, None, refl, sym, ap, ◌∙◌, arith, length, map, take}
use Rattle.std.specs.Prelude.{slice_index_or, if◌then◌else◌, filter, not, ◌==◌, IfSome}
use Rattle.std.proofs.lemmas.List.{map-append, append-nil}
use Rattle.dc_base.specs.Words.{Each, is_number}
use Rattle.dc_base.proofs.EachLaws.{each_first, each_rest}
use Rattle.dc_mdb.specs.declared.links.Link.{Link}
use Rattle.dc_mdb.specs.declared.links.Link.TheVariants.{Absent, Root, Child}
use Rattle.dc_mdb.specs.Forests.{Node, has_slot, parent_at, with_parent, without_slot, IsForest}
use Rattle.dc_mdb.specs.Links.{node_of, nodes_of, is_there}
use Rattle.dc_mdb.proofs.Elements.{other_is}
use Rattle.dc_mdb.proofs.Descending.{numbered_more}
use Rattle.dc_mdb.proofs.Nodes.{there_used}

abbrev slots_in : List Node → List ℕ
slots_in ns = map (λ (n : Node). n.0) ns

-- those among the first k slots
abbrev pub first_slots : List Link → ℕ → List ℕ
first_slots links k = slots_in (nodes_of (take k links))

one_slot : (k : ℕ) (l : Link) → slots_in (node_of k l) ≡ (if is_there l then k ∷ [] else [])
one_slot k Absent = refl
one_slot k Root = refl
one_slot k (Child p) = refl

slots_more : (links : List Link) (k : ℕ) → k < length links → (t : Bool) → is_there (slice_index_or links k Absent) ≡ t → first_slots links (k + 1) ≡ first_slots links k ++ (if t then k ∷ [] else [])
slots_more links k l t h =
    let e : k + 1 ≡ suc k = omega arith in
    let z : 0 + k ≡ k = omega arith in
    ap (first_slots links) e
    ∙ ap slots_in (numbered_more 0 k links l ∙ ap (λ n. nodes_of (take k links) ++ node_of n (slice_index_or links k Absent)) z)
    ∙ map-append (λ (n : Node). n.0) (nodes_of (take k links)) (node_of k (slice_index_or links k Absent))
    ∙ ap (λ ss. first_slots links k ++ ss) (one_slot k (slice_index_or links k Absent) ∙ ap (λ t. if t then k ∷ [] else []) h)

pub slot_next : (links : List Link) (k : ℕ) → k < length links → is_there (slice_index_or links k Absent) ≡ true → first_slots links (k + 1) ≡ first_slots links k ++ k ∷ []
slot_next links k l h = slots_more links k l true h

pub slot_none : (links : List Link) (k : ℕ) → k < length links → is_there (slice_index_or links k Absent) ≡ false → first_slots links (k + 1) ≡ first_slots links k
slot_none links k l h = slots_more links k l false h ∙ append-nil (first_slots links k)

-- a slot that is not there

module _ (nodes : List Node) (f : IsForest nodes) (s : ℕ) (free : has_slot nodes s ≡ false) where
  Apart : Node → Type 0
  Apart n = (n.0 ≡ s → ⊥) × IfSome n.1 (λ p. p ≡ s → ⊥)

  used_elsewhere : (p : ℕ) → has_slot nodes p ≡ true → p ≡ s → ⊥
  used_elsewhere p u e = let z : true ≡ false = sym u ∙ ap (has_slot nodes) e ∙ free in cc

  no_child : (o : Option ℕ) → IfSome o (λ p. has_slot nodes p ≡ true) → IfSome o (λ p. p ≡ s → ⊥)
  no_child None u = tt
  no_child (Some p) u = used_elsewhere p u

  all_apart : Each nodes (λ i n. Apart n)
  unfolding Apart
  all_apart i n e = (used_elsewhere n.0 (there_used nodes n i e), no_child n.1 (f.parents i n e))

  same_parent : (o : Option ℕ) (n : Node) → IfSome n.1 (λ p. p ≡ s → ⊥) → with_parent s o n ≡ n
  same_parent o n h = by_parent n.1 refl h
    where
      by_parent : (q : Option ℕ) → n.1 ≡ q → IfSome q (λ p. p ≡ s → ⊥) → with_parent s o n ≡ n
      by_parent None e u = ap (λ q. if is_number s q then (n.0, o) else n) e
      by_parent (Some p) e u = ap (λ q. if is_number s q then (n.0, o) else n) e ∙ ap (λ t. if t then (n.0, o) else n) (other_is p s u)

  stays : (o : Option ℕ) (ns : List Node) → Each ns (λ i n. Apart n) → map (with_parent s o) (filter (λ (n : Node). not (n.0 == s)) ns) ≡ ns
  unfolding Apart
  stays o [] h = refl
  stays o (n ∷ ns) h =
      let here = each_first (λ i n. Apart n) n ns h in
      ap (λ t. map (with_parent s o) (if not t then n ∷ filter (λ (n : Node). not (n.0 == s)) ns else filter (λ (n : Node). not (n.0 == s)) ns)) (other_is n.0 s here.0)
      ∙ ap (λ m. m ∷ map (with_parent s o) (filter (λ (n : Node). not (n.0 == s)) ns)) (same_parent o n here.1)
      ∙ ap (λ ms. n ∷ ms) (stays o ns (each_rest (λ i n. Apart n) n ns h))

  pub without_absent : nodes ≡ without_slot s nodes
  without_absent = sym (stays (parent_at nodes s) nodes all_apart)
