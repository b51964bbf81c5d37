-- A heap of which one node at most is wrong, after a leaf was written.
use Rattle.std.proofs.Common.{◌≡◌, ◌≢◌, ℕ, ◌+◌, ◌*◌, ◌/◌, ◌<◌, ◌≤◌, Bool, true, false, cond, List, length, set, length-set, refl, ap, ◌∙◌, arith}
use Rattle.std.specs.Prelude.{Option, ◌==◌, if◌then◌else◌}
use Rattle.std.proofs.lemmas.Bool.{eqb-true, eqb-false}
use Rattle.dc_ready.specs.Heaps.{winner, node, IsWon, IsHeap}
use Rattle.dc_ready.specs.declared.heaps.Candidate.{Candidate}
use Rattle.dc_ready.proofs.Nodes.{node-other, node-same, won-changed, won-mended}

-- the nodes came from the old ones by the leaf of d, and all are right but the one above `at`
pub record IsMending (nodes : List (Option Candidate)) (at : ℕ) (old : List (Option Candidate)) (d : ℕ) (leaf : Option Candidate) : Type 0 where
  pub size : length nodes ≡ 32
  pub low : 0 < at
  pub high : at < 32
  pub won : (i : ℕ) → 0 < i → i < 16 → i ≢ at / 2 → IsWon nodes i
  pub leaves : (k : ℕ) → k < 16 → node nodes (16 + k) ≡ (if k == d then leaf else node old (16 + k))

module _ (nodes : List (Option Candidate)) (d : ℕ) (leaf : Option Candidate) (size : length nodes ≡ 32) (lt : d < 16) (heap : IsHeap nodes) where
  leaf_written : (k : ℕ) → k < 16 → (b : Bool) → k == d ≡ b → node (set nodes (16 + d) leaf) (16 + k) ≡ cond b leaf (node nodes (16 + k))
  leaf_written k small true q =
      let e : 16 + k ≡ 16 + d = ap (λ m. 16 + m) (eqb-true k d q) in
      let within : 16 + d < length nodes = omega arith in
      ap (node (set nodes (16 + d) leaf)) e ∙ node-same nodes (16 + d) leaf within
  leaf_written k small false q =
      let differs = eqb-false k d q in
      let ne : 16 + k ≢ 16 + d = omega arith in
      node-other nodes (16 + d) (16 + k) leaf ne

  pub mending-begun : IsMending (set nodes (16 + d) leaf) (16 + d) nodes d leaf
  mending-begun = record {
    size = length-set nodes (16 + d) leaf ∙ size;
    low = omega arith;
    high = omega arith;
    won = won-changed nodes (16 + d) leaf (omega arith) heap;
    leaves = λ k small. leaf_written k small (k == d) refl;
  }

pub mending-more : (nodes : List (Option Candidate)) (at : ℕ) (old : List (Option Candidate)) (d : ℕ) (leaf : Option Candidate) → 1 < at → IsMending nodes at old d leaf → IsMending (set nodes (at / 2) (winner (node nodes (2 * (at / 2))) (node nodes (2 * (at / 2) + 1)))) (at / 2) old d leaf
mending-more nodes at old d leaf more is =
    let high = is.high in
    let half : ℕ = at / 2 in
    let lo : 0 < half = omega arith in
    let hi : half < 16 = omega arith in
    record {
      size = length-set nodes half (winner (node nodes (2 * half)) (node nodes (2 * half + 1))) ∙ is.size;
      low = lo;
      high = omega arith;
      won = won-mended nodes half is.size lo hi is.won;
      leaves = λ k small. let ne : 16 + k ≢ half = omega arith in node-other nodes half (16 + k) (winner (node nodes (2 * half)) (node nodes (2 * half + 1))) ne ∙ is.leaves k small;
    }

pub mending-done : (nodes : List (Option Candidate)) (at : ℕ) (old : List (Option Candidate)) (d : ℕ) (leaf : Option Candidate) → at ≤ 1 → IsMending nodes at old d leaf → IsHeap nodes
mending-done nodes at old d leaf last is = λ i lo hi. is.won i lo hi (let ne : i ≢ at / 2 = omega arith in ne)
