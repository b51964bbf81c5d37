-- Heaps of candidates: a leaf for each of 16 dispatchers, and above two nodes the one that is picked before the other.
use Rattle.std.specs.Prelude.{◌≡◌, ℕ, ◌+◌, ◌*◌, ◌<◌, nat_lt, List, [], ◌∷◌, Bool, ◌||◌, ◌&&◌, ◌==◌, Option, Some, None, if◌then◌else◌, length, slice_index_or}
use Rattle.dc_ready.specs.Entries.{IsReadyList}
use Rattle.dc_ready.specs.declared.heaps.Candidate.{Candidate}

-- by (due, number)
abbrev pub is_before : Candidate → Candidate → Bool
is_before a b = nat_lt a.due b.due || (a.due == b.due && nat_lt a.number b.number)

abbrev pub before : Candidate → Option Candidate → Candidate
before a None = a
before a (Some b) = if is_before b a then b else a

-- which of two is picked first
abbrev pub winner : Option Candidate → Option Candidate → Option Candidate
winner None b = b
winner (Some a) b = Some (before a b)

abbrev pub node : List (Option Candidate) → ℕ → Option Candidate
node nodes i = slice_index_or nodes i None

-- node i stands above the nodes 2 i and 2 i + 1
abbrev pub IsWon : List (Option Candidate) → ℕ → Type 0
IsWon nodes i = node nodes i ≡ winner (node nodes (2 * i)) (node nodes (2 * i + 1))

abbrev pub IsHeap : List (Option Candidate) → Type 0
IsHeap nodes = (i : ℕ) → 0 < i → i < 16 → IsWon nodes i

-- the leaf of dispatcher d
abbrev pub leaf : ℕ → List (ℕ × ℕ) → Option Candidate
leaf d [] = None
leaf d (e ∷ es) = if e.0 == d then Some (record { due = e.1; number = d }) else leaf d es

-- the heap of a ready list
pub record IsHeapOf (nodes : List (Option Candidate)) (es : List (ℕ × ℕ)) : Type 0 where
  pub size : length nodes ≡ 32
  pub heap : IsHeap nodes
  pub leaves : (d : ℕ) → d < 16 → node nodes (16 + d) ≡ leaf d es
  pub once : IsReadyList es
