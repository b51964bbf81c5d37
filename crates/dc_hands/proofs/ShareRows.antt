-- The blocks of a share, taken into a row one after another.
use Rattle.std.proofs.Common.{◌≡◌, ◌≢◌, ℕ, zero, suc, ◌+◌, ◌<◌, ◌≤◌, ◌==◌, ◌||◌, Bool, true, false, true≢false, List, [], ◌∷◌, ◌++◌, Some}
use Rattle.std.proofs.Common.{refl, sym, ap, ◌∙◌, cond, inl, inr, length, map, arith, eq-eqb, ne_eqb}
use Rattle.std.specs.Prelude.{take, slice_get}
use Rattle.std.proofs.Math.Bool.{or-true}
use Rattle.std.proofs.lemmas.List.{map-append}
use Rattle.std.proofs.lemmas.List.Sums.{sum_by-cons}
use Rattle.std.proofs.lemmas.Option.{same_Some}
use mathlib.Core.Logic.{dite}
use native.Mathlib.Decide.{ℕ_discrete}
use Rattle.dc_base.specs.declared.numbers.BlockNo.{BlockNo}
use Rattle.dc_base.specs.Changes.{Name, a_block}
use Rattle.dc_base.specs.Histories.{Listed}
use Rattle.dc_base.specs.Outcomes.{share_blocks}
use Rattle.dc_base.specs.Outcomes.{has as in_share}
use Rattle.dc_base.specs.Placed.{count_in}
use Rattle.dc_base.specs.States.{Member, Block}
use Rattle.dc_hands.specs.Rows.{Rowed, place_in, with_last}
use Rattle.dc_hands.specs.Gathering.{row_blocks}
use Rattle.dc_hands.proofs.Rowing.{at_head, in_tail, tail_below}

-- one element more
take_one_more : {A : Type 0} (xs : List A) (i : ℕ) (x : A) → slice_get xs i ≡ Some x → take (suc i) xs ≡ take i xs ++ x ∷ []
take_one_more [] i x e = absurd cc
take_one_more (y ∷ ys) zero x e = ap (λ z. z ∷ []) (same_Some y x e)
take_one_more (y ∷ ys) (suc i) x e = ap (λ z. y ∷ z) (take_one_more ys i x e)

pub take_grown : {A : Type 0} (xs : List A) (i : ℕ) (x : A) → slice_get xs i ≡ Some x → take (i + 1) xs ≡ take i xs ++ x ∷ []
take_grown xs i x e = let next : i + 1 ≡ suc i = omega arith in rw next (take_one_more xs i x e)

pub take_few : {A : Type 0} (xs : List A) (i : ℕ) → length (take i xs) ≤ i
take_few [] zero = omega arith
take_few [] (suc i) = omega arith
take_few (x ∷ xs) zero = omega arith
take_few (x ∷ xs) (suc i) = let h = take_few xs i in omega (arith, h)

pub take_whole : {A : Type 0} (xs : List A) (i : ℕ) → length xs ≤ i → take i xs ≡ xs
take_whole [] zero h = refl
take_whole [] (suc i) h = refl
take_whole (x ∷ xs) zero h = absurd (omega (arith, h))
take_whole (x ∷ xs) (suc i) h = ap (λ z. x ∷ z) (take_whole xs i (omega (arith, h)))

-- the block at a place of a share, as its reader tells it
pub placed_at : (seen share : List Member) (i b : ℕ) → seen ≡ share → Some b ≡ slice_get (share_blocks seen) i → slice_get (share_blocks share) i ≡ Some b
placed_at seen share i b same e = ap (λ (s : List Member). slice_get (share_blocks s) i) (sym same) ∙ sym e

-- a block at a place of the share is in it
pub at_in_share : (share : List Member) (i b : ℕ) → slice_get (share_blocks share) i ≡ Some b → in_share share b ≡ true
at_in_share [] i b e = absurd cc
at_in_share (m ∷ share) zero b e = ap (λ t. t || in_share share b) (eq-eqb m.block b (same_Some m.block b e))
at_in_share (m ∷ share) (suc i) b e = ap (λ t. (m.block == b) || t) (at_in_share share i b e) ∙ or-true (m.block == b)

counted : (m : Member) (share : List Member) (b : ℕ) → count_in (m ∷ share) b ≡ cond (m.block == b) 1 0 + count_in share b
counted m share b = sum_by-cons (λ (n : Member). cond (n.block == b) 1 0) m share

counted_here : (m : Member) (share : List Member) (b : ℕ) → m.block ≡ b → count_in (m ∷ share) b ≡ 1 + count_in share b
counted_here m share b e = counted m share b ∙ ap (λ (t : Bool). cond {A = ℕ} t 1 0 + count_in share b) (eq-eqb m.block b e)

counted_past : (m : Member) (share : List Member) (b : ℕ) → m.block ≢ b → count_in (m ∷ share) b ≡ 0 + count_in share b
counted_past m share b e = counted m share b ∙ ap (λ (t : Bool). cond {A = ℕ} t 1 0 + count_in share b) (ne_eqb m.block b e)

-- a block at a place of the share counts
counts_at : (share : List Member) (i b : ℕ) → slice_get (share_blocks share) i ≡ Some b → 1 ≤ count_in share b
counts_at [] i b e = absurd cc
counts_at (m ∷ share) zero b e = let c = counted_here m share b (same_Some m.block b e) in omega (arith, c)
counts_at (m ∷ share) (suc i) b e = dite (ℕ_discrete m.block b)
    (λ q. let c = counted_here m share b q in omega (arith, c))
    (λ q. let c = counted_past m share b q in let h = counts_at share i b e in omega (arith, c, h))

-- a block that the share lists once is not among those before its place
pub not_before : (share : List Member) (i b : ℕ) (ns : List BlockNo) → slice_get (share_blocks share) i ≡ Some b → count_in share b ≤ 1
    → map (λ (n : BlockNo). n.0) ns ≡ take i (share_blocks share) → place_in ns b ≡ length ns
not_before share i b [] e once are = refl
not_before [] i b (n ∷ ns) e once are = absurd cc
not_before (m ∷ share) zero b (n ∷ ns) e once are = absurd (let bad : n.0 ∷ map (λ (n : BlockNo). n.0) ns ≡ [] = are in cc)
not_before (m ∷ share) (suc i) b (n ∷ ns) e once are =
    let both : n.0 ∷ map (λ (n : BlockNo). n.0) ns ≡ m.block ∷ take i (share_blocks share) = are in
    let here : n.0 ≡ m.block = cc in
    let rest : map (λ (n : BlockNo). n.0) ns ≡ take i (share_blocks share) = cc in
    let other : m.block ≢ b = λ q. let c = counted_here m share b q in let h = counts_at share i b e in omega (arith, c, h, once) in
    let c = counted_past m share b other in
    in_tail n ns b (λ q. other (sym here ∙ q)) ∙ ap suc (not_before share i b ns e (omega (arith, c, once)) rest)

-- where the numbers are the share's, each block of the share has a place
pub share_placed : (share : List Member) (b : ℕ) (ns : List BlockNo) → map (λ (n : BlockNo). n.0) ns ≡ share_blocks share → in_share share b ≡ true
    → place_in ns b < length ns
share_placed [] b ns are h = absurd (true≢false (sym h))
share_placed (m ∷ share) b [] are h = absurd cc
share_placed (m ∷ share) b (n ∷ ns) are h =
    let both : n.0 ∷ map (λ (n : BlockNo). n.0) ns ≡ m.block ∷ share_blocks share = are in
    let here : n.0 ≡ m.block = cc in
    let rest : map (λ (n : BlockNo). n.0) ns ≡ share_blocks share = cc in
    dite (ℕ_discrete n.0 b)
    (λ q. let p = at_head n ns b q in omega (arith, p))
    (λ q. let p = in_tail n ns b q in
    let k = share_placed share b ns rest (ap (λ t. t || in_share share b) (sym (ne_eqb m.block b (λ f. q (here ∙ f)))) ∙ h) in omega (arith, p, k))

-- and no other block has one
pub other_placed : (share : List Member) (b : ℕ) (ns : List BlockNo) → map (λ (n : BlockNo). n.0) ns ≡ share_blocks share → in_share share b ≡ false
    → place_in ns b ≡ length ns
other_placed share b [] are h = refl
other_placed [] b (n ∷ ns) are h = absurd (let bad : n.0 ∷ map (λ (n : BlockNo). n.0) ns ≡ [] = are in cc)
other_placed (m ∷ share) b (n ∷ ns) are h =
    let both : n.0 ∷ map (λ (n : BlockNo). n.0) ns ≡ m.block ∷ share_blocks share = are in
    let here : n.0 ≡ m.block = cc in
    let rest : map (λ (n : BlockNo). n.0) ns ≡ share_blocks share = cc in
    let other : m.block ≢ b = λ q. true≢false (ap (λ t. t || in_share share b) (sym (eq-eqb m.block b q)) ∙ h) in
    in_tail n ns b (λ q. other (sym here ∙ q))
    ∙ ap suc (other_placed share b ns rest (ap (λ t. t || in_share share b) (sym (ne_eqb m.block b other)) ∙ h))

-- a number that has a place is listed, and what is listed has a place
pub placed_listed : (ns : List BlockNo) (b : ℕ) → place_in ns b < length ns → Listed (a_block b) (map a_block (map (λ (n : BlockNo). n.0) ns))
placed_listed [] b h = absurd (omega (arith, h))
placed_listed (n ∷ ns) b h = dite (ℕ_discrete n.0 b)
    (λ q. inl (sym (ap a_block q)))
    (λ q. inr (placed_listed ns b (tail_below n ns b q h)))

pub listed_placed : (ns : List BlockNo) (m : Name) → Listed m (map a_block (map (λ (n : BlockNo). n.0) ns)) → (b : ℕ) × (m ≡ a_block b) × (place_in ns b < length ns)
listed_placed [] m l = absurd l
listed_placed (n ∷ ns) m (inl e) = (n.0, e, let p = at_head n ns n.0 refl in omega (arith, p))
listed_placed (n ∷ ns) m (inr l) =
    let r = listed_placed ns m l in
    (r.0, r.1, let near = r.2 in dite (ℕ_discrete n.0 r.0) (λ q. let p = at_head n ns r.0 q in omega (arith, p)) (λ q. let p = in_tail n ns r.0 q in omega (arith, p, near)))

-- the numbers of a row with one block more
pub longer_numbers : (r : Rowed) (b : BlockNo) (x : Block) → row_blocks (with_last r b x) ≡ row_blocks r ++ b.0 ∷ []
longer_numbers r b x = map-append (λ (n : BlockNo). n.0) r.numbers (b ∷ [])
