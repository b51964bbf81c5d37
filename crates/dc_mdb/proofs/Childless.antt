-- A slot without a child: the count of its children is 0, and nothing descends from it.
use Rattle.std.proofs.Common.{◌≡◌, ℕ, zero, suc, ◌+◌, List, [], ◌∷◌, Bool, true, false, Option, Some, None, refl, sym, ap, ◌∙◌, arith, length, map}
use Rattle.std.specs.Prelude.{nat_lt, ◌==◌, ◌||◌, not, if◌then◌else◌, filter}
use Rattle.std.proofs.lemmas.Bool.{or_parts}
use Rattle.std.proofs.lemmas.Bool.Decides.{nat_tests}
use Rattle.dc_base.specs.Words.{count_of, numbered, is_number}
use Rattle.dc_mdb.specs.declared.links.Link.{Link}
use Rattle.dc_mdb.specs.declared.links.Link.TheVariants.{Absent, Root, Child}
use Rattle.dc_mdb.specs.Forests.{Node, node_at, parent_in, parent_at, is_parent, reaches_in, reaches, descendants, without_descendants}
use Rattle.dc_mdb.specs.Links.{node_of, nodes_of}
use Rattle.dc_mdb.specs.Counts.{child_count}

is_some_child : (s : ℕ) (t : Bool) (n : ℕ) (u : Bool) → nat_lt 0 n ≡ u → nat_lt 0 (count_of t + n) ≡ (t || u)
is_some_child s true n u e = grind (arith, nat_tests)
is_some_child s false n u e = ap (nat_lt 0) (let z : 0 + n ≡ n = omega arith in z) ∙ e

counted_from : (s k : ℕ) (links : List Link) → nat_lt 0 (child_count s links) ≡ is_parent (numbered node_of k links) s
counted_from s k [] = refl
counted_from s k (Absent ∷ ls) = is_some_child s false (child_count s ls) (is_parent (numbered node_of (k + 1) ls) s) (counted_from s (k + 1) ls)
counted_from s k (Root ∷ ls) = is_some_child s false (child_count s ls) (is_parent (numbered node_of (k + 1) ls) s) (counted_from s (k + 1) ls)
counted_from s k (Child p ∷ ls) = is_some_child s (p == s) (child_count s ls) (is_parent (numbered node_of (k + 1) ls) s) (counted_from s (k + 1) ls)

pub counted_is_parent : (s : ℕ) (links : List Link) → nat_lt 0 (child_count s links) ≡ is_parent (nodes_of links) s
counted_is_parent s links = counted_from s 0 links

module _ (s : ℕ) where
  parent_is_another : (p : ℕ) (ns : List Node) → is_parent ns s ≡ false → is_number s (parent_at ns p) ≡ false
  parent_is_another p [] h = refl
  parent_is_another p (n ∷ ns) h = by_test (n.0 == p) (or_parts (is_number s n.1) (is_parent ns s) h) (λ e. parent_is_another p ns e)
    where
      by_test : (t : Bool) → (is_number s n.1 ≡ false) × (is_parent ns s ≡ false) → (is_parent ns s ≡ false → is_number s (parent_at ns p) ≡ false) → is_number s (parent_in (if t then Some n else node_at ns p)) ≡ false
      by_test true h next = h.0
      by_test false h next = next h.1

  module _ (nodes : List Node) (none : is_parent nodes s ≡ false) where
    no_way : (m : ℕ) (o : Option ℕ) → is_number s o ≡ false → reaches_in m nodes s o ≡ false
    no_way zero o h = refl
    no_way (suc m) None h = refl
    no_way (suc m) (Some p) h = ap (λ t. t || reaches_in m nodes s (parent_at nodes p)) h ∙ no_way m (parent_at nodes p) (parent_is_another p nodes none)

    none_kept : (ns : List Node) → is_parent ns s ≡ false → filter (reaches nodes s) ns ≡ []
    none_kept [] h = refl
    none_kept (n ∷ ns) h = let w = or_parts (is_number s n.1) (is_parent ns s) h in
        ap (λ t. if t then n ∷ filter (reaches nodes s) ns else filter (reaches nodes s) ns) (no_way (length nodes) n.1 w.0) ∙ none_kept ns w.1

    all_kept : (ns : List Node) → is_parent ns s ≡ false → ns ≡ filter (λ n. not (reaches nodes s n)) ns
    all_kept [] h = refl
    all_kept (n ∷ ns) h = let w = or_parts (is_number s n.1) (is_parent ns s) h in
        ap (λ ms. n ∷ ms) (all_kept ns w.1)
        ∙ sym (ap (λ t. if not t then n ∷ filter (λ n. not (reaches nodes s n)) ns else filter (λ n. not (reaches nodes s n)) ns) (no_way (length nodes) n.1 w.0))

    pub no_descendants : descendants nodes s ≡ []
    no_descendants = ap (map (λ (n : Node). n.0)) (none_kept nodes none)

    pub no_descendants_out : nodes ≡ without_descendants s nodes
    no_descendants_out = all_kept nodes none
