-- Blocks in a row: their places, and what a row has after one joins it or leaves it.
use Rattle.std.proofs.Common.{◌≡◌, ◌≢◌, ℕ, zero, suc, ◌<◌, ◌≤◌, Bool, List, [], ◌∷◌, ◌++◌, Some, None, if◌then◌else◌, refl, sym, ap}
use Rattle.std.proofs.Common.{◌∙◌, subst, inl, inr, length, arith, eq-eqb, ne_eqb, length-append}
use Rattle.std.specs.Prelude.{◌+◌, slice_get, remove, drop, get_or}
use Rattle.std.proofs.lemmas.List.{drop_more}
use Rattle.std.proofs.lemmas.Option.{none-some, slice_get_cases, slice_get_past, slice_get_within}
use mathlib.Core.Logic.{dite}
use native.Mathlib.Decide.{ℕ_discrete}
use Rattle.dc_base.specs.declared.numbers.BlockNo.{BlockNo}
use Rattle.dc_base.specs.States.{Block}
use Rattle.dc_bodies.specs.Handing.{AreApart}
use Rattle.dc_hands.specs.Rows.{Rowed, place_in, in_row, AreOnce, IsRow, with_last}

-- the place of a number

pub at_head : (n : BlockNo) (ns : List BlockNo) (b : ℕ) → n.0 ≡ b → place_in (n ∷ ns) b ≡ zero
at_head n ns b e = ap (λ (t : Bool). if t then zero else suc (place_in ns b)) (eq-eqb n.0 b e)

pub in_tail : (n : BlockNo) (ns : List BlockNo) (b : ℕ) → n.0 ≢ b → place_in (n ∷ ns) b ≡ suc (place_in ns b)
in_tail n ns b e = ap (λ (t : Bool). if t then zero else suc (place_in ns b)) (ne_eqb n.0 b e)

pub place_most : (ns : List BlockNo) (b : ℕ) → place_in ns b ≤ length ns
place_most [] b = omega arith
place_most (n ∷ ns) b = dite (ℕ_discrete n.0 b)
    (λ e. let q = at_head n ns b e in omega (arith, q))
    (λ e. let q = in_tail n ns b e in let h = place_most ns b in omega (arith, q, h))

pub tail_below : (n : BlockNo) (ns : List BlockNo) (b : ℕ) → n.0 ≢ b → place_in (n ∷ ns) b < suc (length ns) → place_in ns b < length ns
tail_below n ns b e h = let q = in_tail n ns b e in omega (arith, q, h)

pub tail_past : (n : BlockNo) (ns : List BlockNo) (b : ℕ) → place_in (n ∷ ns) b ≡ suc (length ns) → (n.0 ≢ b) × (place_in ns b ≡ length ns)
tail_past n ns b h =
    let other : n.0 ≢ b = λ e. let q = at_head n ns b e in omega (arith, q, h) in
    (other, let q = in_tail n ns b other in omega (arith, q, h))

-- a number keeps its place where another comes last
last_keeps : (ns : List BlockNo) (c : BlockNo) (b : ℕ) → place_in ns b < length ns → place_in (ns ++ c ∷ []) b ≡ place_in ns b
last_keeps [] c b h = absurd (omega (arith, h))
last_keeps (n ∷ ns) c b h = dite (ℕ_discrete n.0 b)
    (λ e. at_head n (ns ++ c ∷ []) b e ∙ sym (at_head n ns b e))
    (λ e. in_tail n (ns ++ c ∷ []) b e ∙ (ap suc (last_keeps ns c b (tail_below n ns b e h)) ∙ sym (in_tail n ns b e)))

-- the place of the last
last_here : (ns : List BlockNo) (c : BlockNo) → place_in ns c.0 ≡ length ns → place_in (ns ++ c ∷ []) c.0 ≡ length ns
last_here [] c h = at_head c [] c.0 refl
last_here (n ∷ ns) c h = let p = tail_past n ns c.0 h in in_tail n (ns ++ c ∷ []) c.0 p.0 ∙ ap suc (last_here ns c p.1)

-- what was not there is not there after another comes last
last_past : (ns : List BlockNo) (c : BlockNo) (b : ℕ) → c.0 ≢ b → place_in ns b ≡ length ns → place_in (ns ++ c ∷ []) b ≡ suc (length ns)
last_past [] c b e h = in_tail c [] b e
last_past (n ∷ ns) c b e h = let p = tail_past n ns b h in in_tail n (ns ++ c ∷ []) b p.0 ∙ ap suc (last_past ns c b e p.1)

last_once : (ns : List BlockNo) (c : BlockNo) → AreOnce ns → place_in ns c.0 ≡ length ns → AreOnce (ns ++ c ∷ [])
last_once [] c o h = (refl, tt)
last_once (n ∷ ns) c o h =
    let p = tail_past n ns c.0 h in
    (last_past ns c n.0 (λ e. p.0 (sym e)) o.0 ∙ sym (length_last ns c), last_once ns c o.1 p.1)
  where
    length_last : (ns : List BlockNo) (c : BlockNo) → length (ns ++ c ∷ []) ≡ suc (length ns)
    length_last ns c = let h = length-append ns (c ∷ []) in omega (arith, h)

-- without the last number none stands twice, and the last is not there
pub once_before : (ns : List BlockNo) (c : BlockNo) → AreOnce (ns ++ c ∷ []) → AreOnce ns × (place_in ns c.0 ≡ length ns)
once_before [] c o = (tt, refl)
once_before (n ∷ ns) c o =
    let before = once_before ns c o.1 in
    let long = length-append ns (c ∷ []) in
    let other : n.0 ≢ c.0 = λ e. let here = ap (place_in (ns ++ c ∷ [])) e ∙ last_here ns c before.1 in let far = o.0 in omega (arith, here, far, long) in
    let past : place_in ns n.0 ≡ length ns = dite (ℕ_discrete (place_in ns n.0) (length ns)) (λ e. e)
    (λ e. absurd (let most = place_most ns n.0 in let kept = last_keeps ns c n.0 (omega (arith, most, e)) in let far = o.0 in omega (arith, kept, far, long, most))) in
    ((past, before.0), in_tail n ns c.0 other ∙ ap suc before.1)

-- where the number at a place is taken out
out_gone : (ns : List BlockNo) (b : ℕ) → AreOnce ns → place_in ns b < length ns → place_in (remove ns (place_in ns b)) b ≡ length (remove ns (place_in ns b))
out_gone [] b o h = absurd (omega (arith, h))
out_gone (n ∷ ns) b o h = dite (ℕ_discrete n.0 b)
    (λ e. subst (λ p. place_in (remove (n ∷ ns) p) b ≡ length (remove (n ∷ ns) p)) (sym (at_head n ns b e)) (subst (λ c. place_in ns c ≡ length ns) e o.0))
    (λ e. subst (λ p. place_in (remove (n ∷ ns) p) b ≡ length (remove (n ∷ ns) p)) (sym (in_tail n ns b e))
    (in_tail n (remove ns (place_in ns b)) b e ∙ ap suc (out_gone ns b o.1 (tail_below n ns b e h))))

length_out : {A : Type 0} (xs : List A) (i : ℕ) → i < length xs → suc (length (remove xs i)) ≡ length xs
length_out [] i h = absurd (omega (arith, h))
length_out (x ∷ xs) zero h = refl
length_out (x ∷ xs) (suc i) h = ap suc (length_out xs i (omega (arith, h)))

-- the elements of two lists in step, where one of each is taken out
out_others : (ns : List BlockNo) (xs : List Block) (b c : ℕ) → length ns ≡ length xs → c ≢ b → place_in ns b < length ns
    → slice_get (remove xs (place_in ns b)) (place_in (remove ns (place_in ns b)) c) ≡ slice_get xs (place_in ns c)
out_others [] xs b c each ne h = absurd (omega (arith, h))
out_others (n ∷ ns) [] b c each ne h = absurd (omega (arith, each))
out_others (n ∷ ns) (x ∷ xs) b c each ne h = dite (ℕ_discrete n.0 b)
    (λ e. subst (λ p. slice_get (remove (x ∷ xs) p) (place_in (remove (n ∷ ns) p) c) ≡ slice_get (x ∷ xs) (place_in (n ∷ ns) c)) (sym (at_head n ns b e))
    (sym (ap (slice_get (x ∷ xs)) (in_tail n ns c (λ q. ne (sym q ∙ e))))))
    (λ e. subst (λ p. slice_get (remove (x ∷ xs) p) (place_in (remove (n ∷ ns) p) c) ≡ slice_get (x ∷ xs) (place_in (n ∷ ns) c)) (sym (in_tail n ns b e))
    (dite (ℕ_discrete n.0 c)
    (λ q. ap (slice_get (x ∷ remove xs (place_in ns b))) (at_head n (remove ns (place_in ns b)) c q) ∙ sym (ap (slice_get (x ∷ xs)) (at_head n ns c q)))
    (λ q. ap (slice_get (x ∷ remove xs (place_in ns b))) (in_tail n (remove ns (place_in ns b)) c q)
    ∙ (out_others ns xs b c (omega (arith, each)) ne (tail_below n ns b e h) ∙ sym (ap (slice_get (x ∷ xs)) (in_tail n ns c q))))))

-- a number that is not there is not there after one is taken out
out_past : (ns : List BlockNo) (i c : ℕ) → i < length ns → place_in ns c ≡ length ns → place_in (remove ns i) c ≡ length (remove ns i)
out_past [] i c h p = absurd (omega (arith, h))
out_past (n ∷ ns) zero c h p = (tail_past n ns c p).1
out_past (n ∷ ns) (suc i) c h p = let t = tail_past n ns c p in in_tail n (remove ns i) c t.0 ∙ ap suc (out_past ns i c (omega (arith, h)) t.1)

out_once : (ns : List BlockNo) (i : ℕ) → i < length ns → AreOnce ns → AreOnce (remove ns i)
out_once [] i h o = absurd (omega (arith, h))
out_once (n ∷ ns) zero h o = o.1
out_once (n ∷ ns) (suc i) h o = let k : i < length ns = omega (arith, h) in (out_past ns i n.0 k o.0, out_once ns i k o.1)

-- elements of a longer list
before_last : {A : Type 0} (xs : List A) (x : A) (i : ℕ) → i < length xs → slice_get (xs ++ x ∷ []) i ≡ slice_get xs i
before_last [] x i h = absurd (omega (arith, h))
before_last (y ∷ xs) x zero h = refl
before_last (y ∷ xs) x (suc i) h = before_last xs x i (omega (arith, h))

at_last : {A : Type 0} (xs : List A) (x : A) → slice_get (xs ++ x ∷ []) (length xs) ≡ Some x
at_last [] x = refl
at_last (y ∷ xs) x = at_last xs x

length_last : {A : Type 0} (xs : List A) (x : A) → length (xs ++ x ∷ []) ≡ suc (length xs)
length_last xs x = let h = length-append xs (x ∷ []) in omega (arith, h)

module _ (r : Rowed) (ok : IsRow r) where
  -- the block of a number that is not in the row has no place
  pub none_placed : (b : ℕ) → in_row r b ≡ None → place_in r.numbers b ≡ length r.numbers
  none_placed b h = elim (slice_get_cases r.blocks (place_in r.numbers b)).1 [
    | inl found ↦ absurd (none-some found.0 (sym h ∙ found.2))
    | inr past ↦ (let far = past.0 in let most = place_most r.numbers b in let each = ok.each in omega (arith, far, most, each))
  ]

  -- the block of a number in the row has a place
  pub some_placed : (b : ℕ) (x : Block) → in_row r b ≡ Some x → place_in r.numbers b < length r.numbers
  some_placed b x h = let w = slice_get_within r.blocks (place_in r.numbers b) x h in let each = ok.each in omega (arith, w, each)

  -- what has no place is not in the row
  pub placed_none : (b : ℕ) → place_in r.numbers b ≡ length r.numbers → in_row r b ≡ None
  placed_none b h = slice_get_past r.blocks (place_in r.numbers b) (let each = ok.each in omega (arith, h, each))

  module _ (b : BlockNo) (x : Block) (apart : in_row r b.0 ≡ None) where
    -- a row with one block more
    pub longer_row : IsRow (with_last r b x)
    longer_row = record {
      each = length_last r.numbers b ∙ (ap suc ok.each ∙ sym (length_last r.blocks x));
      once = last_once r.numbers b ok.once (none_placed b.0 apart);
    }

    pub longer_here : in_row (with_last r b x) b.0 ≡ Some x
    longer_here = ap (slice_get (r.blocks ++ x ∷ [])) (last_here r.numbers b (none_placed b.0 apart) ∙ ok.each) ∙ at_last r.blocks x

    -- each other block stands in the row as before
    pub longer_others : (n : ℕ) → (n ≡ b.0 → ⊥) → in_row (with_last r b x) n ≡ in_row r n
    longer_others n ne = elim (slice_get_cases r.blocks (place_in r.numbers n)).1 [
      | inl found ↦ (
          let near : place_in r.numbers n < length r.numbers = (let w = found.1 in let each = ok.each in omega (arith, w, each)) in
          ap (slice_get (r.blocks ++ x ∷ [])) (last_keeps r.numbers b n near) ∙ before_last r.blocks x (place_in r.numbers n) found.1)
      | inr past ↦ (
          let far : place_in (r.numbers ++ b ∷ []) n ≡ suc (length r.numbers) = last_past r.numbers b n (λ e. ne (sym e)) (none_placed n past.1) in
          slice_get_past (r.blocks ++ x ∷ []) (place_in (r.numbers ++ b ∷ []) n) (let l = length_last r.blocks x in let each = ok.each in omega (arith, far, l, each)) ∙ sym past.1)
    ]

  module _ (b : ℕ) (near : place_in r.numbers b < length r.numbers) where
    abbrev left : Rowed
    left = record { numbers = remove r.numbers (place_in r.numbers b); blocks = remove r.blocks (place_in r.numbers b) }

    near_blocks : place_in r.numbers b < length r.blocks
    near_blocks = subst (λ n. place_in r.numbers b < n) ok.each near

    -- a row with one block less
    pub shorter_row : IsRow left
    shorter_row = record {
      each = let a = length_out r.numbers (place_in r.numbers b) near in let c = length_out r.blocks (place_in r.numbers b) near_blocks in
          let each = ok.each in omega (arith, a, c, each);
      once = out_once r.numbers (place_in r.numbers b) near ok.once;
    }

    pub shorter_gone : in_row left b ≡ None
    shorter_gone =
        let gone = out_gone r.numbers b ok.once near in
        slice_get_past left.blocks (place_in left.numbers b) (let each = shorter_row.each in omega (arith, gone, each))

    pub shorter_others : (n : ℕ) → (n ≡ b → ⊥) → in_row left n ≡ in_row r n
    shorter_others n ne = out_others r.numbers r.blocks b n ok.each ne near

    pub shorter_count : length r.numbers ≡ length left.numbers + 1
    shorter_count = let a = length_out r.numbers (place_in r.numbers b) near in omega (arith, a)

  -- no two blocks of a row stand at one place
  pub places_apart : AreApart (place_in r.numbers) (length r.blocks)
  places_apart b c near same = apart_in r.numbers b c (let each = ok.each in omega (arith, near, each)) same
    where
      apart_in : (ns : List BlockNo) (b c : ℕ) → place_in ns b < length ns → place_in ns c ≡ place_in ns b → c ≡ b
      apart_in [] b c near same = absurd (omega (arith, near))
      apart_in (n ∷ ns) b c near same = dite (ℕ_discrete n.0 b)
          (λ e. dite (ℕ_discrete n.0 c) (λ q. sym q ∙ e) (λ q. absurd (let a = at_head n ns b e in let t = in_tail n ns c q in omega (arith, a, t, same))))
          (λ e. dite (ℕ_discrete n.0 c)
          (λ q. absurd (let a = in_tail n ns b e in let t = at_head n ns c q in omega (arith, a, t, same)))
          (λ q. apart_in ns b c (tail_below n ns b e near) (let a = in_tail n ns b e in let t = in_tail n ns c q in omega (arith, a, t, same))))

-- a row without its last block
pub row_before : (ns : List BlockNo) (xs : List Block) (b : BlockNo) (x : Block) → IsRow (with_last (record { numbers = ns; blocks = xs }) b x)
    → IsRow (record { numbers = ns; blocks = xs }) × (in_row (record { numbers = ns; blocks = xs }) b.0 ≡ None)
row_before ns xs b x ok =
    let before = once_before ns b ok.once in
    let m = length_last ns b in
    let n = length_last xs x in
    let each = ok.each in
    let same : length ns ≡ length xs = omega (arith, m, n, each) in
    let row : IsRow (record { numbers = ns; blocks = xs }) = record { each = same; once = before.0 } in
    (row, placed_none (record { numbers = ns; blocks = xs }) row b.0 before.1)

-- the next place in a list
pub place_next : (ns : List BlockNo) (i b : ℕ) (n : BlockNo) → i < length ns → (get_or ns i n).0 ≢ b → place_in (drop i ns) b ≡ suc (place_in (drop (i + 1) ns) b)
place_next ns i b n h ne = ap (λ ms. place_in ms b) (drop_more ns i n h) ∙ in_tail (get_or ns i n) (drop (i + 1) ns) b ne

pub place_found : (ns : List BlockNo) (i b : ℕ) (n : BlockNo) → i < length ns → (get_or ns i n).0 ≡ b → place_in (drop i ns) b ≡ zero
place_found ns i b n h e = ap (λ ms. place_in ms b) (drop_more ns i n h) ∙ at_head (get_or ns i n) (drop (i + 1) ns) b e

pub place_none : (ns : List BlockNo) (i b : ℕ) → length ns ≤ i → place_in (drop i ns) b ≡ zero
place_none [] zero b h = refl
place_none [] (suc i) b h = refl
place_none (n ∷ ns) zero b h = absurd (omega (arith, h))
place_none (n ∷ ns) (suc i) b h = place_none ns i b (omega (arith, h))
