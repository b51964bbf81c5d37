-- The forest of the links, as links change.
use Rattle.std.proofs.Common.{◌≡◌, ℕ, zero, suc, ◌+◌, ◌<◌, ◌≤◌, List, [], ◌∷◌, ◌++◌, Bool, true, false, Option, Some, None, refl, sym, ap, ◌∙◌, subst, arith, length, map}
use Rattle.std.specs.Prelude.{slice_index_or, slice_set, nat_lt, ◌==◌, not, if◌then◌else◌, filter, is_some}
use Rattle.std.proofs.lemmas.Bool.Decides.{nat_tests}
use Rattle.dc_base.specs.Words.{Each, numbered}
use Rattle.dc_base.proofs.EachLaws.{each_nil, each_cons}
use Rattle.dc_mdb.specs.declared.links.Link.{Link}
use Rattle.dc_mdb.specs.declared.links.Link.TheVariants.{Absent, Root, Child}
use Rattle.dc_mdb.specs.Forests.{Node, node_at, has_slot, parent_in, parent_at, with_node, with_parent}
use Rattle.dc_mdb.specs.Links.{node_of, nodes_of, link_parent, is_there, link_to, with_link}
use Rattle.dc_base.proofs.Ascending.{Ascends, ascends_nil, ascends_cons}
use Rattle.dc_mdb.proofs.Elements.{same_is, other_is}

abbrev nodes_from : ℕ → List Link → List Node
nodes_from k links = numbered node_of k links

-- what the array has of a slot

abbrev pub node_if : ℕ → Link → Option Node
node_if s Absent = None
node_if s Root = Some (s, None)
node_if s (Child p) = Some (s, Some p)

none_before : (k s : ℕ) (links : List Link) → s < k → node_at (nodes_from k links) s ≡ None
none_before k s [] l = refl
none_before k s (Absent ∷ ls) l = none_before (k + 1) s ls (omega arith)
none_before k s (Root ∷ ls) l = ap (λ t. if t then Some (k, None) else node_at (nodes_from (k + 1) ls) s) (other_is k s (λ e. omega (arith, e, l))) ∙ none_before (k + 1) s ls (omega arith)
none_before k s (Child p ∷ ls) l = ap (λ t. if t then Some (k, Some p) else node_at (nodes_from (k + 1) ls) s) (other_is k s (λ e. omega (arith, e, l))) ∙ none_before (k + 1) s ls (omega arith)

here : (k s : ℕ) → s ≡ k + 0 → (k == s) ≡ true
here k s e = let q : s ≡ k = omega (arith, e) in ap (λ n. k == n) q ∙ same_is k

later : (k s i : ℕ) → s ≡ k + suc i → (k == s) ≡ false
later k s i e = other_is k s (λ q. omega (arith, q, e))

found_at : (k s i : ℕ) (links : List Link) → s ≡ k + i → node_at (nodes_from k links) s ≡ node_if s (slice_index_or links i Absent)
found_at k s i [] e = refl
found_at k s zero (Absent ∷ ls) e = none_before (k + 1) s ls (omega (arith, e))
found_at k s zero (Root ∷ ls) e = let q : s ≡ k = omega (arith, e) in ap (λ t. if t then Some (k, None) else node_at (nodes_from (k + 1) ls) s) (here k s e) ∙ ap (λ (n : ℕ). Some (n, None)) (sym q)
found_at k s zero (Child p ∷ ls) e = let q : s ≡ k = omega (arith, e) in ap (λ t. if t then Some (k, Some p) else node_at (nodes_from (k + 1) ls) s) (here k s e) ∙ ap (λ (n : ℕ). Some (n, Some p)) (sym q)
found_at k s (suc i) (Absent ∷ ls) e = found_at (k + 1) s i ls (omega (arith, e))
found_at k s (suc i) (Root ∷ ls) e = ap (λ t. if t then Some (k, None) else node_at (nodes_from (k + 1) ls) s) (later k s i e) ∙ found_at (k + 1) s i ls (omega (arith, e))
found_at k s (suc i) (Child p ∷ ls) e = ap (λ t. if t then Some (k, Some p) else node_at (nodes_from (k + 1) ls) s) (later k s i e) ∙ found_at (k + 1) s i ls (omega (arith, e))

node_at_links : (links : List Link) (s : ℕ) → node_at (nodes_of links) s ≡ node_if s (slice_index_or links s Absent)
node_at_links links s = found_at 0 s s links (omega arith)

pub parent_at_links : (links : List Link) (s : ℕ) → parent_at (nodes_of links) s ≡ link_parent (slice_index_or links s Absent)
parent_at_links links s = ap parent_in (node_at_links links s) ∙ by_link (slice_index_or links s Absent)
  where
    by_link : (l : Link) → parent_in (node_if s l) ≡ link_parent l
    by_link Absent = refl
    by_link Root = refl
    by_link (Child p) = refl

pub has_slot_links : (links : List Link) (s : ℕ) → has_slot (nodes_of links) s ≡ is_there (slice_index_or links s Absent)
has_slot_links links s = ap is_some (node_at_links links s) ∙ by_link (slice_index_or links s Absent)
  where
    by_link : (l : Link) → is_some (node_if s l) ≡ is_there l
    by_link Absent = refl
    by_link Root = refl
    by_link (Child p) = refl

-- a slot that is put in

front : (k s : ℕ) (o : Option ℕ) (links : List Link) → s < k → with_node (s, o) (nodes_from k links) ≡ (s, o) ∷ nodes_from k links
front k s o [] l = refl
front k s o (Absent ∷ ls) l = front (k + 1) s o ls (omega arith)
front k s o (Root ∷ ls) l = let t : nat_lt s k ≡ true = grind (arith, nat_tests, l) in ap (λ t. if t then (s, o) ∷ (k, None) ∷ nodes_from (k + 1) ls else (k, None) ∷ with_node (s, o) (nodes_from (k + 1) ls)) t
front k s o (Child p ∷ ls) l = let t : nat_lt s k ≡ true = grind (arith, nat_tests, l) in ap (λ t. if t then (s, o) ∷ (k, Some p) ∷ nodes_from (k + 1) ls else (k, Some p) ∷ with_node (s, o) (nodes_from (k + 1) ls)) t

beyond : (k s i : ℕ) → s ≡ k + suc i → nat_lt s k ≡ false
beyond k s i e = let l : k ≤ s = omega (arith, e) in grind (arith, nat_tests, l)

front_here : (k s : ℕ) (o : Option ℕ) (ls : List Link) → s ≡ k + 0 → (k, o) ∷ nodes_from (k + 1) ls ≡ with_node (s, o) (nodes_from (k + 1) ls)
front_here k s o ls e = let q : s ≡ k = omega (arith, e) in subst (λ n. (k, o) ∷ nodes_from (k + 1) ls ≡ with_node (n, o) (nodes_from (k + 1) ls)) (sym q) (sym (front (k + 1) k o ls (omega arith)))

module _ (l : Link) (o : Option ℕ) (is : (s : ℕ) → node_of s l ≡ (s, o) ∷ []) where
  put_at : (k s i : ℕ) (links : List Link) → s ≡ k + i → i < length links → slice_index_or links i Absent ≡ Absent → nodes_from k (slice_set links i l) ≡ with_node (s, o) (nodes_from k links)
  put_at k s i [] e w h = absurd (omega (arith, w))
  put_at k s zero (Absent ∷ ls) e w h = ap (λ ns. ns ++ nodes_from (k + 1) ls) (is k) ∙ front_here k s o ls e
  put_at k s zero (Root ∷ ls) e w h = absurd cc
  put_at k s zero (Child p ∷ ls) e w h = absurd cc
  put_at k s (suc i) (Absent ∷ ls) e w h = put_at (k + 1) s i ls (omega (arith, e)) (omega (arith, w)) h
  put_at k s (suc i) (Root ∷ ls) e w h = ap (λ ns. (k, None) ∷ ns) (put_at (k + 1) s i ls (omega (arith, e)) (omega (arith, w)) h) ∙ ap (λ t. if t then (s, o) ∷ (k, None) ∷ nodes_from (k + 1) ls else (k, None) ∷ with_node (s, o) (nodes_from (k + 1) ls)) (sym (beyond k s i e))
  put_at k s (suc i) (Child p ∷ ls) e w h = ap (λ ns. (k, Some p) ∷ ns) (put_at (k + 1) s i ls (omega (arith, e)) (omega (arith, w)) h) ∙ ap (λ t. if t then (s, o) ∷ (k, Some p) ∷ nodes_from (k + 1) ls else (k, Some p) ∷ with_node (s, o) (nodes_from (k + 1) ls)) (sym (beyond k s i e))

free : (l : Link) → is_there l ≡ false → l ≡ Absent
free Absent h = refl
free Root h = absurd cc
free (Child p) h = absurd cc

pub links_with_root : (links : List Link) (s : ℕ) → s < length links → is_there (slice_index_or links s Absent) ≡ false → nodes_of (slice_set links s Root) ≡ with_node (s, None) (nodes_of links)
links_with_root links s w h = put_at Root None (λ s. refl) 0 s s links (omega arith) w (free _ h)

pub links_with_child : (links : List Link) (s p : ℕ) → s < length links → is_there (slice_index_or links s Absent) ≡ false → nodes_of (slice_set links s (Child p)) ≡ with_node (s, Some p) (nodes_of links)
links_with_child links s p w h = put_at (Child p) (Some p) (λ s. refl) 0 s s links (omega arith) w (free _ h)

-- a slot that is taken out

abbrev pub is_not : ℕ → Node → Bool
is_not s n = not (n.0 == s)

all_stay : (k s : ℕ) (links : List Link) → s < k → filter (is_not s) (nodes_from k links) ≡ nodes_from k links
all_stay k s [] l = refl
all_stay k s (Absent ∷ ls) l = all_stay (k + 1) s ls (omega arith)
all_stay k s (Root ∷ ls) l = ap (λ t. if not t then (k, None) ∷ filter (is_not s) (nodes_from (k + 1) ls) else filter (is_not s) (nodes_from (k + 1) ls)) (other_is k s (λ e. omega (arith, e, l))) ∙ ap (λ ns. (k, None) ∷ ns) (all_stay (k + 1) s ls (omega arith))
all_stay k s (Child p ∷ ls) l = ap (λ t. if not t then (k, Some p) ∷ filter (is_not s) (nodes_from (k + 1) ls) else filter (is_not s) (nodes_from (k + 1) ls)) (other_is k s (λ e. omega (arith, e, l))) ∙ ap (λ ns. (k, Some p) ∷ ns) (all_stay (k + 1) s ls (omega arith))

out_at : (k s i : ℕ) (links : List Link) → s ≡ k + i → nodes_from k (slice_set links i Absent) ≡ filter (is_not s) (nodes_from k links)
out_at k s i [] e = refl
out_at k s zero (Absent ∷ ls) e = sym (all_stay (k + 1) s ls (omega (arith, e)))
out_at k s zero (Root ∷ ls) e = sym (ap (λ t. if not t then (k, None) ∷ filter (is_not s) (nodes_from (k + 1) ls) else filter (is_not s) (nodes_from (k + 1) ls)) (here k s e) ∙ all_stay (k + 1) s ls (omega (arith, e)))
out_at k s zero (Child p ∷ ls) e = sym (ap (λ t. if not t then (k, Some p) ∷ filter (is_not s) (nodes_from (k + 1) ls) else filter (is_not s) (nodes_from (k + 1) ls)) (here k s e) ∙ all_stay (k + 1) s ls (omega (arith, e)))
out_at k s (suc i) (Absent ∷ ls) e = out_at (k + 1) s i ls (omega (arith, e))
out_at k s (suc i) (Root ∷ ls) e = ap (λ ns. (k, None) ∷ ns) (out_at (k + 1) s i ls (omega (arith, e))) ∙ ap (λ t. if not t then (k, None) ∷ filter (is_not s) (nodes_from (k + 1) ls) else filter (is_not s) (nodes_from (k + 1) ls)) (sym (later k s i e))
out_at k s (suc i) (Child p ∷ ls) e = ap (λ ns. (k, Some p) ∷ ns) (out_at (k + 1) s i ls (omega (arith, e))) ∙ ap (λ t. if not t then (k, Some p) ∷ filter (is_not s) (nodes_from (k + 1) ls) else filter (is_not s) (nodes_from (k + 1) ls)) (sym (later k s i e))

pub links_without : (links : List Link) (s : ℕ) → nodes_of (slice_set links s Absent) ≡ filter (is_not s) (nodes_of links)
links_without links s = out_at 0 s s links (omega arith)

-- children that hang elsewhere

module _ (s : ℕ) (o : Option ℕ) where
  hung_link : (k p : ℕ) (t : Bool) → node_of k (if t then link_to o else Child p) ≡ (if t then (k, o) else (k, Some p)) ∷ []
  hung_link k p false = refl
  hung_link k p true = by_parent o
    where
      by_parent : (o : Option ℕ) → node_of k (link_to o) ≡ (k, o) ∷ []
      by_parent None = refl
      by_parent (Some q) = refl

  pub hung_from : (k : ℕ) (links : List Link) → nodes_from k (map (with_link s (link_to o)) links) ≡ map (with_parent s o) (nodes_from k links)
  hung_from k [] = refl
  hung_from k (Absent ∷ ls) = hung_from (k + 1) ls
  hung_from k (Root ∷ ls) = ap (λ ns. (k, None) ∷ ns) (hung_from (k + 1) ls)
  hung_from k (Child p ∷ ls) = ap (λ ns. ns ++ nodes_from (k + 1) (map (with_link s (link_to o)) ls)) (hung_link k p (p == s)) ∙ ap (λ ns. with_parent s o (k, Some p) ∷ ns) (hung_from (k + 1) ls)

pub links_hung : (s : ℕ) (o : Option ℕ) (links : List Link) → nodes_of (map (with_link s (link_to o)) links) ≡ map (with_parent s o) (nodes_of links)
links_hung s o links = hung_from s o 0 links

-- the slots ascend within the array

abbrev Between : ℕ → ℕ → Node → Type 0
Between k end n = (k ≤ n.0) × (n.0 < end)

between : (k end : ℕ) (links : List Link) → k + length links ≤ end → Each (nodes_from k links) (λ i. Between k end)
between k end [] l = each_nil (λ i. Between k end)
between k end (Absent ∷ ls) l = λ i n e. (let w = between (k + 1) end ls (omega (arith, l)) i n e in (omega (arith, w.0), w.1))
between k end (Root ∷ ls) l = each_cons (λ i. Between k end) (k, None) (nodes_from (k + 1) ls) (omega arith, omega (arith, l)) (λ i n e. (let w = between (k + 1) end ls (omega (arith, l)) i n e in (omega (arith, w.0), w.1)))
between k end (Child p ∷ ls) l = each_cons (λ i. Between k end) (k, Some p) (nodes_from (k + 1) ls) (omega arith, omega (arith, l)) (λ i n e. (let w = between (k + 1) end ls (omega (arith, l)) i n e in (omega (arith, w.0), w.1)))

pub links_below : (links : List Link) (end : ℕ) → length links ≤ end → Each (nodes_of links) (λ i (n : Node). n.0 < end)
links_below links end l i n e = let w = between 0 end links (omega (arith, l)) i n e in w.1

abbrev pub slot_of : Node → ℕ
slot_of n = n.0

after : (k : ℕ) (ls : List Link) → Each (nodes_from (k + 1) ls) (λ i (n : Node). k < n.0)
after k ls i n e = let w = between (k + 1) (k + 1 + length ls) ls (omega arith) i n e in omega (arith, w.0)

ascends_from : (k : ℕ) (links : List Link) → Ascends slot_of (nodes_from k links)
ascends_from k [] = ascends_nil slot_of
ascends_from k (Absent ∷ ls) = ascends_from (k + 1) ls
ascends_from k (Root ∷ ls) = ascends_cons slot_of (k, None) (nodes_from (k + 1) ls) (after k ls) (ascends_from (k + 1) ls)
ascends_from k (Child p ∷ ls) = ascends_cons slot_of (k, Some p) (nodes_from (k + 1) ls) (after k ls) (ascends_from (k + 1) ls)

pub links_ascend : (links : List Link) → Ascends slot_of (nodes_of links)
links_ascend links = ascends_from 0 links

-- no more slots than links
length_from : (k : ℕ) (links : List Link) → length (nodes_from k links) ≤ length links
length_from k [] = omega arith
length_from k (Absent ∷ ls) = let w = length_from (k + 1) ls in omega (arith, w)
length_from k (Root ∷ ls) = let w = length_from (k + 1) ls in omega (arith, w)
length_from k (Child p ∷ ls) = let w = length_from (k + 1) ls in omega (arith, w)

pub length_links : (links : List Link) → length (nodes_of links) ≤ length links
length_links links = length_from 0 links
