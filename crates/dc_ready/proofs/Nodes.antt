-- Heaps that change, and their top.
use Rattle.std.proofs.Common.{◌≡◌, ◌≢◌, ℕ, ◌+◌, ◌*◌, ◌/◌, ◌<◌, ◌≤◌, List, length, set, get_or-set_other, get_or-set_same, sym, refl, ◌∙◌, subst, ⊎_elim, arith}
use Rattle.std.specs.Prelude.{Option}
use Rattle.std.proofs.lemmas.Bool.{cases_eq}
use Rattle.dc_ready.specs.Heaps.{winner, node, IsWon, IsHeap}
use Rattle.dc_ready.specs.declared.heaps.Candidate.{Candidate}
use Rattle.dc_ready.proofs.Winners.{IsNotBefore, not-before-more, winner-first, winner-second, winner-either}

pub node-other : (nodes : List (Option Candidate)) (j i : ℕ) (w : Option Candidate) → i ≢ j → node (set nodes j w) i ≡ node nodes i
node-other nodes j i w ne = rw get_or-set_other refl

pub node-same : (nodes : List (Option Candidate)) (j : ℕ) (w : Option Candidate) → j < length nodes → node (set nodes j w) j ≡ w
node-same nodes j w lt = rw get_or-set_same refl

-- a node that is neither i nor below it
won-elsewhere : (nodes : List (Option Candidate)) (j i : ℕ) (w : Option Candidate) → i ≢ j → 2 * i ≢ j → 2 * i + 1 ≢ j → IsWon nodes i → IsWon (set nodes j w) i
won-elsewhere nodes j i w a b c h =
    let x = node-other nodes j i w a in
    let y = node-other nodes j (2 * i) w b in
    let z = node-other nodes j (2 * i + 1) w c in
    cc

-- only the node above one that changes can be wrong then
pub won-changed : (nodes : List (Option Candidate)) (j : ℕ) (w : Option Candidate) → 16 ≤ j → IsHeap nodes → (i : ℕ) → 0 < i → i < 16 → i ≢ j / 2 → IsWon (set nodes j w) i
won-changed nodes j w low heap i lo hi ne =
    let a : i ≢ j = omega arith in
    let b : 2 * i ≢ j = omega arith in
    let c : 2 * i + 1 ≢ j = omega arith in
    won-elsewhere nodes j i w a b c (heap i lo hi)

-- a node is set right, and then only the one above it can be wrong
pub won-mended : (nodes : List (Option Candidate)) (j : ℕ) → length nodes ≡ 32 → 0 < j → j < 16 → ((i : ℕ) → 0 < i → i < 16 → i ≢ j → IsWon nodes i) → (i : ℕ) → 0 < i → i < 16 → i ≢ j / 2 → IsWon (set nodes j (winner (node nodes (2 * j)) (node nodes (2 * j + 1)))) i
won-mended nodes j size low high heap i lo hi ne = ⊎_elim
    (λ (e : i ≡ j). subst (IsWon (set nodes j w)) (sym e) here)
    (λ (n : i ≢ j). let b : 2 * i ≢ j = omega arith in let c : 2 * i + 1 ≢ j = omega arith in won-elsewhere nodes j i w n b c (heap i lo hi n))
    (cases_eq i j)
  where
    w : Option Candidate
    w = winner (node nodes (2 * j)) (node nodes (2 * j + 1))

    here : IsWon (set nodes j w) j
    here =
        let lt : j < length nodes = omega arith in
        let b : 2 * j ≢ j = omega arith in
        let c : 2 * j + 1 ≢ j = omega arith in
        let x = node-same nodes j w lt in
        let y = node-other nodes j (2 * j) w b in
        let z = node-other nodes j (2 * j + 1) w c in
        cc

module _ (nodes : List (Option Candidate)) (heap : IsHeap nodes) where
  left : (i : ℕ) → 0 < i → i < 16 → IsNotBefore (node nodes (2 * i)) (node nodes i)
  left i lo hi = subst (IsNotBefore (node nodes (2 * i))) (sym (heap i lo hi)) (winner-first (node nodes (2 * i)) (node nodes (2 * i + 1)))

  right : (i : ℕ) → 0 < i → i < 16 → IsNotBefore (node nodes (2 * i + 1)) (node nodes i)
  right i lo hi = subst (IsNotBefore (node nodes (2 * i + 1))) (sym (heap i lo hi)) (winner-second (node nodes (2 * i)) (node nodes (2 * i + 1)))

  above : (i j : ℕ) → j ≡ i / 2 → 1 < i → i < 32 → IsNotBefore (node nodes i) (node nodes j)
  above i j half lo hi =
      let low : 0 < j = omega arith in
      let high : j < 16 = omega arith in
      ⊎_elim
      (λ (e : i ≡ 2 * j). subst (λ k. IsNotBefore (node nodes k) (node nodes j)) (sym e) (left j low high))
      (λ (n : i ≢ 2 * j). let e : 2 * j + 1 ≡ i = omega arith in subst (λ k. IsNotBefore (node nodes k) (node nodes j)) e (right j low high))
      (cases_eq i (2 * j))

  -- no leaf is picked before the top
  pub leaf-not-before : (k : ℕ) → 16 ≤ k → k < 32 → IsNotBefore (node nodes k) (node nodes 1)
  leaf-not-before k lo hi =
      let a : ℕ = k / 2 in
      let b : ℕ = a / 2 in
      let c : ℕ = b / 2 in
      let p = above k a refl (omega arith) (omega arith) in
      let q = above a b refl (omega arith) (omega arith) in
      let r = above b c refl (omega arith) (omega arith) in
      let s = above c 1 (omega arith) (omega arith) (omega arith) in
      not-before-more (node nodes k) (node nodes a) (node nodes 1) p (not-before-more (node nodes a) (node nodes b) (node nodes 1) q (not-before-more (node nodes b) (node nodes c) (node nodes 1) r s))

  -- a node is as one of the leaves
  pub record IsLeaf (i : ℕ) : Type 0 where
    pub place : ℕ
    pub low : 16 ≤ place
    pub high : place < 32
    pub same : node nodes i ≡ node nodes place

  as_itself : (k : ℕ) → 16 ≤ k → k < 32 → IsLeaf k
  as_itself k lo hi = record { place = k; low = lo; high = hi; same = refl }

  as_child : (i k : ℕ) → node nodes i ≡ node nodes k → IsLeaf k → IsLeaf i
  as_child i k e b = record { place = b.place; low = b.low; high = b.high; same = e ∙ b.same }

  as_either : (i : ℕ) → 0 < i → i < 16 → IsLeaf (2 * i) → IsLeaf (2 * i + 1) → IsLeaf i
  as_either i lo hi p q = ⊎_elim
      (λ (e : winner (node nodes (2 * i)) (node nodes (2 * i + 1)) ≡ node nodes (2 * i)). as_child i (2 * i) (heap i lo hi ∙ e) p)
      (λ (e : winner (node nodes (2 * i)) (node nodes (2 * i + 1)) ≡ node nodes (2 * i + 1)). as_child i (2 * i + 1) (heap i lo hi ∙ e) q)
      (winner-either (node nodes (2 * i)) (node nodes (2 * i + 1)))

  over_leaves : (i : ℕ) → 8 ≤ i → i < 16 → IsLeaf i
  over_leaves i lo hi = as_either i (omega arith) hi (as_itself (2 * i) (omega arith) (omega arith)) (as_itself (2 * i + 1) (omega arith) (omega arith))

  over_eights : (i : ℕ) → 4 ≤ i → i < 8 → IsLeaf i
  over_eights i lo hi = as_either i (omega arith) (omega arith) (over_leaves (2 * i) (omega arith) (omega arith)) (over_leaves (2 * i + 1) (omega arith) (omega arith))

  over_fours : (i : ℕ) → 2 ≤ i → i < 4 → IsLeaf i
  over_fours i lo hi = as_either i (omega arith) (omega arith) (over_eights (2 * i) (omega arith) (omega arith)) (over_eights (2 * i + 1) (omega arith) (omega arith))

  pub top-leaf : IsLeaf 1
  top-leaf = as_either 1 (omega arith) (omega arith) (over_fours 2 (omega arith) (omega arith)) (over_fours 3 (omega arith) (omega arith))
