-- The slots below one, as they are found in order.
use Rattle.std.proofs.Common.{◌≡◌, ℕ, zero, suc, ◌+◌, ◌<◌, ◌≤◌, List, [], ◌∷◌, ◌++◌, Bool, true, false, Option, Some, None, refl, sym, ap, ◌∙◌, arith, length, map, take, append_assoc}
use Rattle.std.specs.Prelude.{slice_index_or, if◌then◌else◌, filter, IfSome}
use Rattle.std.proofs.lemmas.List.{map-append, append-nil}
use Rattle.std.proofs.lemmas.List.Elements.{filter-append}
use Rattle.dc_base.specs.Words.{numbered}
use Rattle.dc_mdb.specs.declared.links.Link.{Link}
use Rattle.dc_mdb.specs.declared.links.Link.TheVariants.{Absent, Root, Child}
use Rattle.dc_mdb.specs.Forests.{Node, node_at, has_slot, parent_in, parent_at, reaches_in, reaches, IsForest}
use Rattle.dc_mdb.specs.Links.{node_of, nodes_of, link_parent}
use Rattle.dc_mdb.proofs.Linked.{parent_at_links}
use Rattle.dc_mdb.proofs.Nodes.{node_found}
use Rattle.dc_mdb.proofs.Reaching.{reaches_same}
use Rattle.dc_mdb.proofs.Rooted.{rooted_of}
use Rattle.dc_mdb.proofs.Steps.{reaches_none}

-- one link more
pub numbered_more : (j k : ℕ) (links : List Link) → k < length links → numbered node_of j (take (suc k) links) ≡ numbered node_of j (take k links) ++ node_of (j + k) (slice_index_or links k Absent)
numbered_more j k [] l = absurd (omega (arith, l))
numbered_more j zero (x ∷ xs) l = append-nil (node_of j x) ∙ ap (λ n. node_of n x) (let e : j ≡ j + 0 = omega arith in e)
numbered_more j (suc k) (x ∷ xs) l =
    ap (λ ns. node_of j x ++ ns) (numbered_more (j + 1) k xs (omega (arith, l)) ∙ ap (λ n. numbered node_of (j + 1) (take k xs) ++ node_of n (slice_index_or xs k Absent)) (let e : j + 1 + k ≡ j + suc k = omega arith in e))
    ∙ sym (append_assoc (node_of j x) (numbered node_of (j + 1) (take k xs)) (node_of (j + suc k) (slice_index_or xs k Absent)))

slot_of : Node → ℕ
slot_of n = n.0

module _ (nodes : List Node) (s : ℕ) where
  abbrev found : List Node → List ℕ
  found ns = map (λ (n : Node). n.0) (filter (reaches nodes s) ns)

  found_one : (k : ℕ) (l : Link) → found (node_of k l) ≡ (if reaches_in (length nodes) nodes s (link_parent l) then k ∷ [] else [])
  found_one k Absent = ap (λ t. if t then k ∷ [] else []) (sym (reaches_none (length nodes) nodes s))
  found_one k Root = by_test (reaches_in (length nodes) nodes s None)
    where
      by_test : (t : Bool) → map (λ (n : Node). n.0) (if t then (k, None) ∷ [] else []) ≡ (if t then k ∷ [] else [])
      by_test true = refl
      by_test false = refl
  found_one k (Child p) = by_test (reaches_in (length nodes) nodes s (Some p))
    where
      by_test : (t : Bool) → map (λ (n : Node). n.0) (if t then (k, Some p) ∷ [] else []) ≡ (if t then k ∷ [] else [])
      by_test true = refl
      by_test false = refl

  found_append : (ms ns : List Node) → found (ms ++ ns) ≡ found ms ++ found ns
  found_append ms ns = ap (map (λ (n : Node). n.0)) (filter-append (reaches nodes s) ms ns) ∙ map-append (λ (n : Node). n.0) (filter (reaches nodes s) ms) (filter (reaches nodes s) ns)

  -- those found among the first k slots
  abbrev pub found_first : List Link → ℕ → List ℕ
  found_first links k = found (nodes_of (take k links))

  found_more : (links : List Link) (k : ℕ) → k < length links → found_first links (k + 1) ≡ found_first links k ++ (if reaches_in (length nodes) nodes s (link_parent (slice_index_or links k Absent)) then k ∷ [] else [])
  found_more links k l =
      let e : k + 1 ≡ suc k = omega arith in
      let z : 0 + k ≡ k = omega arith in
      ap (found_first links) e
      ∙ ap found (numbered_more 0 k links l ∙ ap (λ n. nodes_of (take k links) ++ node_of n (slice_index_or links k Absent)) z)
      ∙ found_append (nodes_of (take k links)) (node_of k (slice_index_or links k Absent))
      ∙ ap (λ ns. found_first links k ++ ns) (found_one k (slice_index_or links k Absent))

parent_used : (nodes : List Node) → IsForest nodes → (s : ℕ) → IfSome (parent_at nodes s) (λ p. has_slot nodes p ≡ true)
parent_used nodes f s = by_node (node_at nodes s) refl
  where
    by_node : (o : Option Node) → node_at nodes s ≡ o → IfSome (parent_in o) (λ p. has_slot nodes p ≡ true)
    by_node None e = tt
    by_node (Some n) e = let w = node_found nodes s n e in f.parents w.0.0 n w.0.1

module _ (links : List Link) (f : IsForest (nodes_of links)) (s k : ℕ) (l : k < length links) (few : length (nodes_of links) ≤ length links) where
  abbrev answer : Bool
  answer = reaches_in (length links) (nodes_of links) s (parent_at (nodes_of links) k)

  same_answer : answer ≡ reaches_in (length (nodes_of links)) (nodes_of links) s (link_parent (slice_index_or links k Absent))
  same_answer =
      reaches_same s (nodes_of links) (rooted_of (nodes_of links) f) (length links) (parent_at (nodes_of links) k) (parent_used (nodes_of links) f k) few
      ∙ ap (reaches_in (length (nodes_of links)) (nodes_of links) s) (parent_at_links links k)

  found_by : (t : Bool) → answer ≡ t → found_first (nodes_of links) s links (k + 1) ≡ found_first (nodes_of links) s links k ++ (if t then k ∷ [] else [])
  found_by t e = found_more (nodes_of links) s links k l ∙ ap (λ t. found_first (nodes_of links) s links k ++ (if t then k ∷ [] else [])) (sym same_answer ∙ e)

  pub found_next : answer ≡ true → found_first (nodes_of links) s links (k + 1) ≡ found_first (nodes_of links) s links k ++ k ∷ []
  found_next e = found_by true e

  pub found_none : answer ≡ false → found_first (nodes_of links) s links (k + 1) ≡ found_first (nodes_of links) s links k
  found_none e = found_by false e ∙ append-nil (found_first (nodes_of links) s links k)
