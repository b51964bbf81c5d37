-- The numbers go on counting the children as links change.
use Rattle.std.proofs.Common.{◌≡◌, ℕ, ◌+◌, ◌-◌, ◌<◌, ◌≤◌, List, false, refl, sym, ap, ◌∙◌, arith, length, map}
use Rattle.std.specs.Prelude.{slice_index_or, slice_set, ◌==◌}
use Rattle.dc_base.specs.Words.{count_of}
use Rattle.dc_mdb.specs.declared.links.Link.{Link}
use Rattle.dc_mdb.specs.declared.links.Link.TheVariants.{Absent, Root, Child}
use Rattle.dc_mdb.specs.Links.{with_link, is_there}
use Rattle.dc_mdb.specs.Counts.{is_child_of, child_count, IsCounted}
use Rattle.dc_mdb.proofs.Counting.{count_set, count_hung, child_is_counted, within_numbers, when, when_one, raised, lowered, emptied}

not_there : (q : ℕ) (l : Link) → is_there l ≡ false → count_of (is_child_of q l) ≡ 0
not_there q Absent h = refl
not_there q Root h = absurd cc
not_there q (Child p) h = absurd cc

module _ (links : List Link) (children : List ℕ) (c : IsCounted links children) where
  -- the parent of a slot has a place among the numbers, and counts it
  pub parent_counts : (s p : ℕ) → slice_index_or links s Absent ≡ Child p → 1 ≤ slice_index_or children p 0
  parent_counts s p e = let a = c p in let l = child_is_counted p s links e in omega (arith, a, l)

  pub parent_within : (s p : ℕ) → slice_index_or links s Absent ≡ Child p → p < length children
  parent_within s p e = within_numbers children p (parent_counts s p e)

  -- a root more
  pub root_counted : (s : ℕ) → s < length links → is_there (slice_index_or links s Absent) ≡ false → IsCounted (slice_set links s Root) children
  root_counted s w h q =
      let a = c q in let b = count_set q links s Root w in let e = not_there q (slice_index_or links s Absent) h in omega (arith, a, b, e)

  -- a child more
  pub child_counted : (s p : ℕ) → s < length links → p < length children → is_there (slice_index_or links s Absent) ≡ false → IsCounted (slice_set links s (Child p)) (slice_set children p (slice_index_or children p 0 + 1))
  child_counted s p w r h q =
      let a = c q in let b = count_set q links s (Child p) w in let d = raised children p q r 1 in let f = when_one (p == q) in
      let e = not_there q (slice_index_or links s Absent) h in omega (arith, a, b, d, e, f)

  -- a root, or what is not there, less
  pub rest_counted : (s : ℕ) → s < length links → ((q : ℕ) → is_child_of q (slice_index_or links s Absent) ≡ false) → IsCounted (slice_set links s Absent) children
  rest_counted s w n q =
      let a = c q in let b = count_set q links s Absent w in let e : count_of (is_child_of q (slice_index_or links s Absent)) ≡ 0 = ap count_of (n q) in omega (arith, a, b, e)

  -- a child less
  pub less_counted : (s p : ℕ) → s < length links → slice_index_or links s Absent ≡ Child p → IsCounted (slice_set links s Absent) (slice_set children p (slice_index_or children p 0 - 1))
  less_counted s p w e q =
      let a = c q in let b = count_set q links s Absent w in let d = lowered children p q (parent_within s p e) 1 (parent_counts s p e) in let f = when_one (p == q) in
      let g : count_of (is_child_of q (slice_index_or links s Absent)) ≡ count_of (p == q) = ap (λ l. count_of (is_child_of q l)) e in omega (arith, a, b, d, f, g)

  -- its children hang elsewhere
  module _ (s : ℕ) (room : s < length children) where
    abbrev emptied_at : List ℕ
    emptied_at = slice_set children s 0

    left_of : (q : ℕ) → slice_index_or emptied_at q 0 + when (s == q) (child_count s links) ≡ child_count q links
    left_of q = ap (λ n. slice_index_or emptied_at q 0 + when (s == q) n) (sym (c s)) ∙ emptied children s q room ∙ c q

    pub rootless_counted : (up : Link) → ((q : ℕ) → is_child_of q up ≡ false) → IsCounted (map (with_link s up) links) emptied_at
    rootless_counted up n q =
        let a = left_of q in let b = count_hung q s up links in let d : when (is_child_of q up) (child_count s links) ≡ 0 = ap (λ t. when t (child_count s links)) (n q) in omega (arith, a, b, d)

    pub hung_counted : (p : ℕ) → p < length emptied_at → IsCounted (map (with_link s (Child p)) links) (slice_set emptied_at p (slice_index_or emptied_at p 0 + slice_index_or children s 0))
    hung_counted p w q =
        let a = left_of q in let b = count_hung q s (Child p) links in
        let d = raised emptied_at p q w (slice_index_or children s 0) in
        let e : when (p == q) (slice_index_or children s 0) ≡ when (p == q) (child_count s links) = ap (when (p == q)) (c s) in omega (arith, a, b, d, e)
