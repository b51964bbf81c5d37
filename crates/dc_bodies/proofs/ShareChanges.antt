-- The blocks of a share, changed one after another.
use Rattle.std.proofs.Common.{◌≡◌, ℕ, zero, suc, ◌+◌, ◌<◌, ◌≤◌, List, [], ◌∷◌, Bool, true, false, Option, Some, None, refl, sym, ap, ◌∙◌, subst, cond, drop, length, get_or, arith}
use Rattle.std.specs.Prelude.{slice_get, slice_set, ◌==◌, ◌||◌}
use Rattle.std.specs.Option.{option_map}
use Rattle.std.proofs.Math.Bool.{or-true}
use Rattle.std.proofs.lemmas.List.Sums.{sum_by-cons}
use Rattle.std.proofs.lemmas.List.{length-map}
use Rattle.std.proofs.lemmas.Option.{slice_get-get_or, slice_get_within, get_or_from_slice_get}
use Rattle.dc_base.specs.Outcomes.{has, share_blocks}
use Rattle.dc_base.specs.Placed.{count_in}
use Rattle.dc_base.specs.States.{Block, Member}
use Rattle.dc_block_sound.proofs.Elements.{is_same, same_is, set_here, set_other}
use Rattle.dc_objects.specs.Blocks.{IsTimed}
use Rattle.dc_bodies.specs.Handing.{AreApart, IsChangedAt, AreChanged, AreTimed, seen_at}

-- a share that lists each block once
pub record ListsOnce (share : List Member) : Type 0 where
  pub once : (b : ℕ) → count_in share b ≤ 1

counts_by : (b : ℕ) (m : Member) (ms : List Member) → (has ms b ≡ true → 0 < count_in ms b) → (t : Bool) → (t || has ms b) ≡ true → 0 < cond t 1 0 + count_in ms b
counts_by b m ms more true h = omega arith
counts_by b m ms more false h = let k = more h in omega (arith, k)

counts : (b : ℕ) (share : List Member) → has share b ≡ true → 0 < count_in share b
counts b [] h = absurd (let bad : false ≡ true = h in cc)
counts b (m ∷ ms) h = subst (λ n. 0 < n) (sym (sum_by-cons (λ (n : Member). cond (n.block == b) 1 0) m ms)) (counts_by b m ms (λ k. counts b ms k) (m.block == b) h)

module _ (m : Member) (ms : List Member) (h : ListsOnce (m ∷ ms)) where
  rest_once : ListsOnce ms
  rest_once = record { once = λ b. (let k = h.once b in let e = sum_by-cons (λ (n : Member). cond (n.block == b) 1 0) m ms in omega (arith, k, e)) }

  apart_by : (b : ℕ) (t : Bool) → (m.block == b) ≡ t → t ≡ true → 0 < count_in ms b → cond t 1 0 + count_in ms b ≤ 1 → ⊥
  apart_by b true g e k l = omega (arith, k, l)
  apart_by b false g e k l = absurd cc

  -- the blocks after the first are others
  first_apart : (b : ℕ) → has ms b ≡ true → m.block ≡ b → ⊥
  first_apart b k same =
      apart_by b (m.block == b) refl (subst (λ n. (m.block == n) ≡ true) same (same_is m.block)) (counts b ms k)
      (subst (λ n. n ≤ 1) (sum_by-cons (λ (n : Member). cond (n.block == b) 1 0) m ms) (h.once b))

first_has : (m : Member) (ms : List Member) → has (m ∷ ms) m.block ≡ true
first_has m ms = ap (λ t. t || has ms m.block) (same_is m.block)

later_has : (m : Member) (ms : List Member) (b : ℕ) → has ms b ≡ true → has (m ∷ ms) b ≡ true
later_has m ms b h = ap (λ t. (m.block == b) || t) h ∙ or-true (m.block == b)

-- a block that is not the first is among those after it where it is among them all
other_has : (m : Member) (ms : List Member) (b : ℕ) → (m.block == b) ≡ false → has (m ∷ ms) b ≡ has ms b
other_has m ms b e = ap (λ t. t || has ms b) e

-- those of `left` are left of the share, and were not changed
pub record Leaves (f : Block → Block) (clock : ℕ) (share left : List Member) (first now : ℕ → Option Block) : Type 0 where
  pub each_once : ListsOnce left
  pub within : (b : ℕ) → has left b ≡ true → has share b ≡ true
  pub timed : AreTimed clock share first
  pub same : (b : ℕ) → has left b ≡ true → now b ≡ first b
  pub made : (b : ℕ) → has share b ≡ true → has left b ≡ false → now b ≡ option_map f (first b)
  pub others : (b : ℕ) → has share b ≡ false → now b ≡ first b

pub none_made : (f : Block → Block) (clock : ℕ) (share : List Member) (first : ℕ → Option Block) → ListsOnce share → AreTimed clock share first → Leaves f clock share share first first
none_made f clock share first o t = record {
  each_once = o;
  within = λ b h. h;
  timed = t;
  same = λ b h. refl;
  made = λ b h k. absurd (let e : true ≡ false = sym h ∙ k in cc);
  others = λ b h. refl;
}

pub all_made : (f : Block → Block) (clock : ℕ) (share left : List Member) (first now : ℕ → Option Block) → left ≡ [] → Leaves f clock share left first now → AreChanged f share first now
all_made f clock share left first now e l = record {
  here = λ b h. l.made b h (ap (λ ms. has ms b) e);
  others = l.others;
}

module _ (f : Block → Block) (clock : ℕ) (share : List Member) (m : Member) (ms : List Member) (first now : ℕ → Option Block) (l : Leaves f clock share (m ∷ ms) first now) where
  next_timed : (x : Block) × (now m.block ≡ Some x) × IsTimed clock x
  next_timed =
      let here = first_has m ms in
      let w = l.timed m.block (l.within m.block here) in
      (w.0, l.same m.block here ∙ w.1, w.2)

  module _ (after : ℕ → Option Block) (c : IsChangedAt f m.block now after) where
    made_by : (b : ℕ) → has share b ≡ true → has ms b ≡ false → (t : Bool) → (m.block == b) ≡ t → after b ≡ option_map f (first b)
    made_by b h k true e =
        let is : m.block ≡ b = is_same m.block b e in
        subst (λ n. after n ≡ option_map f (first n)) is (c.here ∙ ap (option_map f) (l.same m.block (first_has m ms)))
    made_by b h k false e = c.others b (λ is. absurd (let z = subst (λ n. (n == b) ≡ true) is (same_is b) in cc)) ∙ l.made b h (other_has m ms b e ∙ k)

    one_made : Leaves f clock share ms first after
    one_made = record {
      each_once = rest_once m ms l.each_once;
      within = λ b h. l.within b (later_has m ms b h);
      timed = l.timed;
      same = λ b h. c.others b (λ is. first_apart m ms l.each_once b h (sym is)) ∙ l.same b (later_has m ms b h);
      made = λ b h k. made_by b h k (m.block == b) refl;
      others = λ b h. c.others b (λ is. absurd (let z = subst (λ n. has share n ≡ true) (sym is) (l.within m.block (first_has m ms)) in cc)) ∙ l.others b h;
    }

-- what stands at a place of a list that is the share
pub block_at : (list share : List Member) (i : ℕ) (o : Option ℕ) → list ≡ share → o ≡ slice_get (share_blocks list) i → slice_get (share_blocks share) i ≡ o
block_at list share i o same e = sym (e ∙ ap (λ l. slice_get (share_blocks l) i) same)

-- a place within the share has a block
pub none_at : (share : List Member) (i : ℕ) → i < length share → slice_get (share_blocks share) i ≡ None → ⊥
none_at share i h e = (let z : None ≡ Some (get_or (share_blocks share) i 0) = sym e ∙ slice_get-get_or (share_blocks share) i 0 (let n : length (share_blocks share) ≡ length share = length-map share (λ (m : Member). m.block) in omega (arith, n, h)) in cc)

-- the member at a place is the first of those from there on
member_at : (share : List Member) (i b : ℕ) → slice_get (share_blocks share) i ≡ Some b → (m : Member) × (m.block ≡ b) × (drop i share ≡ m ∷ drop (i + 1) share)
member_at [] i b h = absurd cc
member_at (m ∷ ms) zero b h = (m, (let same : m.block ≡ b = cc in same), refl)
member_at (m ∷ ms) (suc i) b h = let w = member_at ms i b h in let same : suc (i + 1) ≡ suc i + 1 = omega arith in (w.0, w.1, w.2 ∙ ap (λ n. w.0 ∷ drop n (m ∷ ms)) same)

-- past its end nothing of the share is left
pub none_left : (share : List Member) (i : ℕ) → length share ≤ i → drop i share ≡ []
none_left [] zero h = refl
none_left [] (suc i) h = refl
none_left (m ∷ ms) zero h = absurd (omega (arith, h))
none_left (m ∷ ms) (suc i) h = none_left ms i (omega (arith, h))

-- a turn of the loop over a share
module _ (f : Block → Block) (clock : ℕ) (share : List Member) (i b : ℕ) (first now : ℕ → Option Block) (here : slice_get (share_blocks share) i ≡ Some b) (l : Leaves f clock share (drop i share) first now) where
  pub block_timed : (x : Block) × (now b ≡ Some x) × IsTimed clock x
  block_timed =
      let w = member_at share i b here in
      subst (λ n. (x : Block) × (now n ≡ Some x) × IsTimed clock x) w.1
      (next_timed f clock share w.0 (drop (i + 1) share) first now (subst (λ left. Leaves f clock share left first now) w.2 l))

  pub turn_made : (after : ℕ → Option Block) → IsChangedAt f b now after → Leaves f clock share (drop (i + 1) share) first after
  turn_made after c =
      let w = member_at share i b here in
      one_made f clock share w.0 (drop (i + 1) share) first now (subst (λ left. Leaves f clock share left first now) w.2 l) after (subst (λ n. IsChangedAt f n now after) (sym w.1) c)

-- a block of a list that is changed where it stands
pub one_changed : (f : Block → Block) (at : ℕ → ℕ) (xs ys : List Block) (b : ℕ) (x y : Block) → seen_at at xs b ≡ Some x → y ≡ f x → ys ≡ slice_set xs (at b) y → AreApart at (length xs) →
    IsChangedAt f b (seen_at at xs) (seen_at at ys)
one_changed f at xs ys b x y there made is apart = record {
  here = ap (λ zs. slice_get zs (at b)) is ∙ (set_here xs (at b) x y there ∙ (ap Some made ∙ ap (option_map f) (sym there)));
  others = λ n other. ap (λ zs. slice_get zs (at n)) is ∙ set_other xs (at b) (at n) y (λ q. other (apart b n (slice_get_within xs (at b) x there) (sym q)));
}

-- what was read at a place that is within the list
pub read_here : (at : ℕ → ℕ) (xs : List Block) (b : ℕ) (x v : Block) → seen_at at xs b ≡ Some x → v ≡ get_or xs (at b) v → v ≡ x
read_here at xs b x v there e = e ∙ get_or_from_slice_get xs (at b) x v there
