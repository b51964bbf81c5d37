-- Slots that are taken out one after another.
use Rattle.std.proofs.Common.{◌≡◌, ℕ, ◌<◌, List, [], ◌∷◌, ◌++◌, Bool, true, false, refl, sym, ap, ◌∙◌, arith, map}
use Rattle.std.specs.Prelude.{◌==◌, ◌||◌, not, if◌then◌else◌, filter}
use Rattle.std.proofs.lemmas.List.Folds.{list_any-append}
use Rattle.std.proofs.lemmas.Bool.Decides.{nat_tests}
use Rattle.dc_base.specs.Words.{Each, lists}
use Rattle.dc_base.proofs.EachLaws.{each_first, each_rest}
use Rattle.dc_mdb.specs.Forests.{Node, reaches, descendants, without_descendants, IsForest}
use Rattle.dc_base.proofs.Ascending.{Ascends, ascends_first, ascends_rest, each_filter}
use Rattle.dc_mdb.proofs.Elements.{same_is, other_is, map_there}
use Rattle.dc_mdb.proofs.Linked.{is_not, slot_of}

abbrev pub is_none_of : List ℕ → Node → Bool
is_none_of slots n = not (lists slots n.0)

-- one more of them
none_more : (slots : List ℕ) (s : ℕ) (n : Node) → is_none_of (slots ++ s ∷ []) n ≡ (if is_none_of slots n then is_not s n else false)
none_more slots s n = ap not (list_any-append (λ m. m == n.0) slots (s ∷ [])) ∙ by_test (lists slots n.0) ∙ ap (λ t. if is_none_of slots n then not t else false) (swapped s n.0)
  where
    by_test : (t : Bool) → not (t || ((s == n.0) || false)) ≡ (if not t then not (s == n.0) else false)
    by_test true = refl
    by_test false = ap not (by_last (s == n.0))
      where
        by_last : (u : Bool) → (u || false) ≡ u
        by_last true = refl
        by_last false = refl

    swapped : (a b : ℕ) → (a == b) ≡ (b == a)
    swapped a b = grind (arith, nat_tests)

filtered_twice : (p q r : Node → Bool) → ((n : Node) → r n ≡ (if p n then q n else false)) → (ns : List Node) → filter q (filter p ns) ≡ filter r ns
filtered_twice p q r same [] = refl
filtered_twice p q r same (n ∷ ns) = by_test (p n) refl (filtered_twice p q r same ns)
  where
    by_test : (t : Bool) → p n ≡ t → filter q (filter p ns) ≡ filter r ns → filter q (if t then n ∷ filter p ns else filter p ns) ≡ (if r n then n ∷ filter r ns else filter r ns)
    by_test true e h = ap (λ ms. if q n then n ∷ ms else ms) h ∙ ap (λ t. if t then n ∷ filter r ns else filter r ns) (sym (same n ∙ ap (λ t. if t then q n else false) e))
    by_test false e h = h ∙ ap (λ t. if t then n ∷ filter r ns else filter r ns) (sym (same n ∙ ap (λ t. if t then q n else false) e))

pub out_after : (slots : List ℕ) (s : ℕ) (ns : List Node) → filter (is_not s) (filter (is_none_of slots) ns) ≡ filter (is_none_of (slots ++ s ∷ [])) ns
out_after slots s ns = filtered_twice (is_none_of slots) (is_not s) (is_none_of (slots ++ s ∷ [])) (none_more slots s) ns

-- all that reach a slot

abbrev slots_of : (Node → Bool) → List Node → List ℕ
slots_of keep ns = map (λ (n : Node). n.0) (filter keep ns)

-- a slot before all of them is not among them
before : (keep : Node → Bool) (k : ℕ) (ns : List Node) → Each ns (λ i (n : Node). k < n.0) → lists (slots_of keep ns) k ≡ false
before keep k [] h = refl
before keep k (n ∷ ns) h = by_test (keep n) (before keep k ns (each_rest (λ i (n : Node). k < n.0) n ns h)) (each_first (λ i (n : Node). k < n.0) n ns h)
  where
    by_test : (t : Bool) → lists (slots_of keep ns) k ≡ false → k < n.0 → lists (map (λ (n : Node). n.0) (if t then n ∷ filter keep ns else filter keep ns)) k ≡ false
    by_test true e l = ap (λ t. t || lists (slots_of keep ns) k) (other_is n.0 k (λ q. omega (arith, q, l))) ∙ e
    by_test false e l = e

same_filter : (p q : Node → Bool) (ns : List Node) → Each ns (λ i n. p n ≡ q n) → filter p ns ≡ filter q ns
same_filter p q [] h = refl
same_filter p q (n ∷ ns) h = ap (λ t. if t then n ∷ filter p ns else filter p ns) (each_first (λ i n. p n ≡ q n) n ns h) ∙ ap (λ ms. if q n then n ∷ ms else ms) (same_filter p q ns (each_rest (λ i n. p n ≡ q n) n ns h))

-- those that are not among the kept slots are not kept
module _ (keep : Node → Bool) (n : Node) (ns : List Node) (later : Each ns (λ i (m : Node). n.0 < m.0)) (rest : filter (is_none_of (slots_of keep ns)) ns ≡ filter (λ n. not (keep n)) ns) where
  past_first : filter (is_none_of (n.0 ∷ slots_of keep ns)) ns ≡ filter (is_none_of (slots_of keep ns)) ns
  past_first = same_filter (is_none_of (n.0 ∷ slots_of keep ns)) (is_none_of (slots_of keep ns)) ns (λ i m e. (let l = later i m e in ap (λ t. not (t || lists (slots_of keep ns) m.0)) (other_is n.0 m.0 (λ q. omega (arith, q, l)))))

  out_by : (t : Bool) → keep n ≡ t → filter (is_none_of (map (λ (n : Node). n.0) (if t then n ∷ filter keep ns else filter keep ns))) (n ∷ ns) ≡ (if not t then n ∷ filter (λ n. not (keep n)) ns else filter (λ n. not (keep n)) ns)
  out_by true e = ap (λ t. if not (t || lists (slots_of keep ns) n.0) then n ∷ filter (is_none_of (n.0 ∷ slots_of keep ns)) ns else filter (is_none_of (n.0 ∷ slots_of keep ns)) ns) (same_is n.0) ∙ past_first ∙ rest
  out_by false e = ap (λ t. if not t then n ∷ filter (is_none_of (slots_of keep ns)) ns else filter (is_none_of (slots_of keep ns)) ns) (before keep n.0 ns later) ∙ ap (λ ms. n ∷ ms) rest

out_of_kept : (keep : Node → Bool) (ns : List Node) → Ascends slot_of ns → filter (is_none_of (slots_of keep ns)) ns ≡ filter (λ n. not (keep n)) ns
out_of_kept keep [] h = refl
out_of_kept keep (n ∷ ns) h = out_by keep n ns (ascends_first slot_of n ns h) (out_of_kept keep ns (ascends_rest slot_of n ns h)) (keep n) refl

pub out_below : (nodes : List Node) (s : ℕ) → IsForest nodes → filter (is_none_of (descendants nodes s)) nodes ≡ without_descendants s nodes
out_below nodes s f = out_of_kept (reaches nodes s) nodes f.ascending

pub none_out : (ns : List Node) → ns ≡ filter (is_none_of []) ns
none_out [] = refl
none_out (n ∷ ns) = ap (λ ms. n ∷ ms) (none_out ns)

pub descendants_below : (nodes : List Node) (s : ℕ) → Each nodes (λ i (n : Node). n.0 < 256) → Each (descendants nodes s) (λ i k. k < 256)
descendants_below nodes s h i k e =
    let m = map_there (λ (n : Node). n.0) (filter (reaches nodes s) nodes) i k e in
    let l = each_filter (λ (n : Node). n.0 < 256) (reaches nodes s) nodes h i m.0 m.1 in
    let q = m.2 in omega (arith, l, q)
