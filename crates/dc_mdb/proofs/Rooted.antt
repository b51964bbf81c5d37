-- Each parent is there, and going from parent to parent ends at a root: this stays as a slot is added.
use Rattle.std.proofs.Common.{◌≡◌, ℕ, ◌+◌, ◌<◌, List, true, false, Option, Some, None, sym, ap, ◌∙◌, subst, arith}
use Rattle.std.specs.Prelude.{slice_get, ◌==◌, if◌then◌else◌, IfSome}
use Rattle.dc_base.specs.Words.{Each}
use Rattle.dc_mdb.specs.Forests.{Node, has_slot, with_node, Falls, IsForest}
use Rattle.dc_mdb.proofs.Elements.{same_is, other_is}
use Rattle.dc_mdb.proofs.Nodes.{there_used, each_put, still_used}

-- each parent is there, and ranks fall to roots
pub record IsRooted (nodes : List Node) : Type 0 where
  pub parents : Each nodes (λ i (n : Node). IfSome n.1 (λ p. has_slot nodes p ≡ true))
  pub roots : (rank : ℕ → ℕ) × Falls rank nodes

pub rooted_of : (nodes : List Node) → IsForest nodes → IsRooted nodes
rooted_of nodes f = record { parents = f.parents; roots = f.roots }

-- one seat more

module _ (nodes : List Node) (f : IsRooted nodes) (h : Node) (free : has_slot nodes h.0 ≡ false) where
  apart : (i : ℕ) (k : Node) → slice_get nodes i ≡ Some k → k.0 ≡ h.0 → ⊥
  apart i k e same = let u : has_slot nodes h.0 ≡ true = subst (λ q. has_slot nodes q ≡ true) same (there_used nodes k i e) in let z : false ≡ true = sym free ∙ u in cc

  put_parents : (o : Option ℕ) → IfSome o (λ p. has_slot nodes p ≡ true) → IfSome o (λ p. has_slot (with_node h nodes) p ≡ true)
  put_parents None u = tt
  put_parents (Some p) u = still_used h nodes p u

  -- the parent's rank and one more, for the new slot
  ranked : (ℕ → ℕ) → ℕ → ℕ → ℕ
  ranked rank top k = if k == h.0 then top else rank k

  old_rank : (rank : ℕ → ℕ) (top k : ℕ) → (k ≡ h.0 → ⊥) → ranked rank top k ≡ rank k
  unfolding ranked
  old_rank rank top k n = ap (λ t. if t then top else rank k) (other_is k h.0 n)

  new_rank : (rank : ℕ → ℕ) (top : ℕ) → ranked rank top h.0 ≡ top
  unfolding ranked
  new_rank rank top = ap (λ t. if t then top else rank h.0) (same_is h.0)

  used_apart : (p : ℕ) → has_slot nodes p ≡ true → p ≡ h.0 → ⊥
  used_apart p u same = let z : false ≡ true = sym free ∙ ap (has_slot nodes) (sym same) ∙ u in cc

  old_falls : (rank : ℕ → ℕ) (top : ℕ) → Falls rank nodes → Falls (ranked rank top) nodes
  old_falls rank top r i k e = by_parent k.1 (f.parents i k e) (r i k e)
    where
      by_parent : (o : Option ℕ) → IfSome o (λ p. has_slot nodes p ≡ true) → IfSome o (λ p. rank p < rank k.0) → IfSome o (λ p. ranked rank top p < ranked rank top k.0)
      by_parent None u l = tt
      by_parent (Some p) u l = let a = old_rank rank top p (used_apart p u) in let b = old_rank rank top k.0 (apart i k e) in omega (arith, a, b, l)

  new_falls : (rank : ℕ → ℕ) (o : Option ℕ) → IfSome o (λ p. has_slot nodes p ≡ true) → (top : ℕ) × IfSome o (λ p. ranked rank top p < ranked rank top h.0)
  new_falls rank None u = (0, tt)
  new_falls rank (Some p) u = let top = rank p + 1 in let a = old_rank rank top p (used_apart p u) in let b = new_rank rank top in (top, omega (arith, a, b))

  pub put_rooted : IfSome h.1 (λ p. has_slot nodes p ≡ true) → IsRooted (with_node h nodes)
  put_rooted u =
      let n = new_falls f.roots.0 h.1 u in
      record {
        parents = each_put h (λ (k : Node). IfSome k.1 (λ p. has_slot (with_node h nodes) p ≡ true)) nodes (put_parents h.1 u) (λ i k e. put_parents k.1 (f.parents i k e));
        roots = (ranked f.roots.0 n.0, each_put h (λ (k : Node). IfSome k.1 (λ p. ranked f.roots.0 n.0 p < ranked f.roots.0 n.0 k.0)) nodes n.1 (old_falls f.roots.0 n.0 f.roots.1));
      }
