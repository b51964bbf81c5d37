-- A derivation forest: slots and their parents, ascending by slot.
use Rattle.std.specs.Prelude.{◌≡◌, ℕ, zero, suc, ◌<◌, nat_lt, List, [], ◌∷◌, Bool, true, false, ◌==◌, ◌||◌, not, Option, Some, None, IfSome}
use Rattle.std.specs.Prelude.{if◌then◌else◌}
use Rattle.std.specs.Prelude.{map, filter, find, length, is_some, slice_get}
use Rattle.std.specs.List.{list_any}
use Rattle.dc_base.specs.Words.{Each, is_number}

-- a slot, and its parent if it has one
abbrev pub Node : Type 0
Node = ℕ × Option ℕ

abbrev pub node_at : List Node → ℕ → Option Node
node_at nodes s = find (λ (n : Node). n.0 == s) nodes

-- whether the slot is there
abbrev pub has_slot : List Node → ℕ → Bool
has_slot nodes s = is_some (node_at nodes s)

abbrev pub parent_in : Option Node → Option ℕ
parent_in None = None
parent_in (Some n) = n.1

-- the parent of a slot, if it has one
abbrev pub parent_at : List Node → ℕ → Option ℕ
parent_at nodes s = parent_in (node_at nodes s)

-- whether the slot has a child
abbrev pub is_parent : List Node → ℕ → Bool
is_parent nodes s = list_any (λ (n : Node). is_number s n.1) nodes

-- one slot more
abbrev pub with_node : Node → List Node → List Node
with_node n [] = n ∷ []
with_node n (m ∷ ms) = if nat_lt n.0 m.0 then n ∷ m ∷ ms else m ∷ with_node n ms

-- whether a slot with this parent reaches s, in at most n steps
abbrev pub reaches_in : ℕ → List Node → ℕ → Option ℕ → Bool
reaches_in zero nodes s parent = false
reaches_in (suc n) nodes s None = false
reaches_in (suc n) nodes s (Some p) = p == s || reaches_in n nodes s (parent_at nodes p)

-- whether a slot reaches s: s is its parent, or its parent reaches s
abbrev pub reaches : List Node → ℕ → Node → Bool
reaches nodes s n = reaches_in (length nodes) nodes s n.1

-- the slots that reach s, ascending
abbrev pub descendants : List Node → ℕ → List ℕ
descendants nodes s = map (λ (n : Node). n.0) (filter (reaches nodes s) nodes)

-- all that reach the slot go
abbrev pub without_descendants : ℕ → List Node → List Node
without_descendants s nodes = filter (λ (n : Node). not (reaches nodes s n)) nodes

-- a child of the slot gets this parent instead
abbrev pub with_parent : ℕ → Option ℕ → Node → Node
with_parent s parent n = if is_number s n.1 then (n.0, parent) else n

-- one goes, and its children get its parent
abbrev pub without_slot : ℕ → List Node → List Node
without_slot s nodes = map (with_parent s (parent_at nodes s)) (filter (λ (n : Node). not (n.0 == s)) nodes)

-- a rank falls from each slot to its parent
abbrev pub Falls : (ℕ → ℕ) → List Node → Type 0
Falls rank nodes = Each nodes (λ i (n : Node). IfSome n.1 (λ p. rank p < rank n.0))

-- the slots ascend below 256, each parent is there, and going from parent to parent ends at a root
pub record IsForest (nodes : List Node) : Type 0 where
  pub ascending : (i j : ℕ) (m n : Node) → i < j → slice_get nodes i ≡ Some m → slice_get nodes j ≡ Some n → m.0 < n.0
  pub below : Each nodes (λ i (n : Node). n.0 < 256)
  pub parents : Each nodes (λ i (n : Node). IfSome n.1 (λ p. has_slot nodes p ≡ true))
  pub roots : (rank : ℕ → ℕ) × Falls rank nodes
