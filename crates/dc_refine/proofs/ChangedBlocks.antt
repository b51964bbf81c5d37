-- The blocks of a share, changed alike.
use Rattle.std.proofs.Common.{◌≡◌, ℕ, suc, ◌<◌, List, [], ◌∷◌, Bool, true, false, Option, Some, None, refl, sym, ap, ◌∙◌, subst, map, length, arith}
use Rattle.std.specs.Prelude.{slice_get, slice_set, ◌==◌, ◌||◌, if◌then◌else◌}
use Rattle.std.specs.Option.{option_map}
use Rattle.std.proofs.lemmas.List.{length-set}
use Rattle.std.proofs.lemmas.Option.{slice_get-map, slice_get_within}
use Rattle.std.proofs.lemmas.Bool.Decides.{nat_tests}
use Rattle.dc_base.specs.Words.{lists}
use Rattle.dc_base.specs.States.{State, Core, Block, Member, Whereabouts, rest, on}
use Rattle.dc_base.specs.Changes.{apply}
use Rattle.dc_base.specs.Turns.{looked_at}
use Rattle.dc_base.specs.Outcomes.{has, share_blocks}
use Rattle.dc_base.specs.Orders.{change_all}
use Rattle.dc_base.specs.Placed.{IsPlaced, IsOn}
use Rattle.dc_refine.proofs.Elements.{slice_get-set_same, slice_get-set_other, there_below}
use Rattle.dc_refine.proofs.Places.{on-has}

-- these blocks set one after another to what f makes of those that were looked at
abbrev set_by : (Block → Block) → ℕ → Option Block → List Block → List Block
set_by f b None ys = ys
set_by f b (Some x) ys = slice_set ys b (f x)

abbrev sets : (Block → Block) → List Block → List ℕ → List Block → List Block
sets f xs [] ys = ys
sets f xs (b ∷ bs) ys = sets f xs bs (set_by f b (slice_get xs b) ys)

applied_by : (m : State) (f : Block → Block) (xs : List Block) (b : ℕ) (bs : List ℕ) → ((m : State) → apply m (change_all f (map (looked_at xs) bs)) ≡ record m { blocks = sets f xs bs m.blocks }) →
    (o : Option Block) → slice_get xs b ≡ o → apply m (change_all f (map (looked_at xs) (b ∷ bs))) ≡ record m { blocks = sets f xs bs (set_by f b o m.blocks) }
applied_by m f xs b bs more None e = rw e (more m)
applied_by m f xs b bs more (Some x) e = rw e (more (record m { blocks = slice_set m.blocks b (f x) }))

applied : (m : State) (f : Block → Block) (xs : List Block) (bs : List ℕ) → apply m (change_all f (map (looked_at xs) bs)) ≡ record m { blocks = sets f xs bs m.blocks }
applied m f xs [] = refl
applied m f xs (b ∷ bs) = applied_by m f xs b bs (λ n. applied n f xs bs) (slice_get xs b) refl

-- what stands at each place afterwards
set_length : (f : Block → Block) (b : ℕ) (o : Option Block) (ys : List Block) → length (set_by f b o ys) ≡ length ys
set_length f b None ys = refl
set_length f b (Some x) ys = length-set ys b (f x)

set_at : (f : Block → Block) (b i : ℕ) (x : Block) (xs ys : List Block) → length ys ≡ length xs → slice_get xs i ≡ Some x → (t : Bool) → (b == i) ≡ t → (o : Option Block) → slice_get xs b ≡ o →
    slice_get (set_by f b o ys) i ≡ (if t then Some (f x) else slice_get ys i)
set_at f b i x xs ys same at true e None g =
    let number : b ≡ i = grind (arith, nat_tests, e) in let h : None ≡ Some x = sym g ∙ ap (slice_get xs) number ∙ at in cc
set_at f b i x xs ys same at true e (Some z) g =
    let number : b ≡ i = grind (arith, nat_tests, e) in
    let h : Some z ≡ Some x = sym g ∙ ap (slice_get xs) number ∙ at in
    let there = there_below ys b (let w : i < length xs = slice_get_within xs i x at in omega (arith, w, same, number)) in
    ap (slice_get (slice_set ys b (f z))) (sym number) ∙ slice_get-set_same ys b there.0 (f z) there.1 ∙ (let k : z ≡ x = cc in ap (λ v. Some (f v)) k)
set_at f b i x xs ys same at false e None g = refl
set_at f b i x xs ys same at false e (Some z) g = slice_get-set_other ys b i (f z) (let h : (i == b) ≡ false = grind (arith, nat_tests, e) in h)

sets_by : (f : Block → Block) (i : ℕ) (x : Block) (ys zs : List Block) (t u : Bool) → slice_get zs i ≡ (if t then Some (f x) else slice_get ys i) → (if u then Some (f x) else slice_get zs i) ≡ (if t || u then Some (f x) else slice_get ys i)
sets_by f i x ys zs true true h = refl
sets_by f i x ys zs true false h = h
sets_by f i x ys zs false true h = refl
sets_by f i x ys zs false false h = h

sets_at : (f : Block → Block) (xs : List Block) (bs : List ℕ) (ys : List Block) (i : ℕ) (x : Block) → length ys ≡ length xs → slice_get xs i ≡ Some x →
    slice_get (sets f xs bs ys) i ≡ (if lists bs i then Some (f x) else slice_get ys i)
sets_at f xs [] ys i x same at = refl
sets_at f xs (b ∷ bs) ys i x same at =
    let zs : List Block = set_by f b (slice_get xs b) ys in
    sets_at f xs bs zs i x (set_length f b (slice_get xs b) ys ∙ same) at
    ∙ sets_by f i x ys zs (b == i) (lists bs i) (set_at f b i x xs ys same at (b == i) refl (slice_get xs b) refl)

sets_length : (f : Block → Block) (xs : List Block) (bs : List ℕ) (ys : List Block) → length (sets f xs bs ys) ≡ length ys
sets_length f xs [] ys = refl
sets_length f xs (b ∷ bs) ys = sets_length f xs bs (set_by f b (slice_get xs b) ys) ∙ set_length f b (slice_get xs b) ys

-- lists with the same elements are the same
pub same_elements : {A : Type 0} (xs ys : List A) → length xs ≡ length ys → ((i : ℕ) (x : A) → slice_get xs i ≡ Some x → slice_get ys i ≡ Some x) → xs ≡ ys
same_elements [] [] e h = refl
same_elements [] (y ∷ ys) e h = absurd (omega (arith, e))
same_elements (x ∷ xs) [] e h = absurd (omega (arith, e))
same_elements (x ∷ xs) (y ∷ ys) e h =
    let first : Some y ≡ Some x = h 0 x refl in
    let same : x ≡ y = cc in
    ap (λ v. v ∷ xs) same ∙ ap (λ v. y ∷ v) (same_elements xs ys (omega (arith, e)) (λ i z g. h (suc i) z g))

-- whether a block is on core c
abbrev pub on_core : ℕ → Whereabouts → Bool
on_core c (rest kept) = false
on_core c (on d offset v) = d == c

pub on_core-is : (c : ℕ) (w : Whereabouts) → on_core c w ≡ true → IsOn c w
on_core-is c (rest kept) h = cc
on_core-is c (on d z v) h = grind (arith, nat_tests, h)

pub is-on_core : (c : ℕ) (w : Whereabouts) → IsOn c w → on_core c w ≡ true
is-on_core c (rest kept) h = absurd h
is-on_core c (on d z v) h = grind (arith, nat_tests, h)

same_bool : (p q : Bool) → (p ≡ true → q ≡ true) → (q ≡ true → p ≡ true) → p ≡ q
same_bool true q f g = sym (f refl)
same_bool false true f g = g refl
same_bool false false f g = refl

has-lists : (share : List Member) (b : ℕ) → has share b ≡ lists (share_blocks share) b
has-lists [] b = refl
has-lists (m ∷ ms) b = ap (λ t. (m.block == b) || t) (has-lists ms b)

-- what is on core c is changed, and nothing else
abbrev pub where_on : ℕ → (Block → Block) → Block → Block
where_on c f x = if on_core c x.whereabouts then f x else x

module _ (s : State) (placed : IsPlaced s) (c : ℕ) (k : Core) (core_at : slice_get s.cores c ≡ Some k) (f : Block → Block) where
  has-on_core : (b : ℕ) (x : Block) → slice_get s.blocks b ≡ Some x → has k.share b ≡ on_core c x.whereabouts
  has-on_core b x at = same_bool (has k.share b) (on_core c x.whereabouts)
      (λ h. let found = placed.only c k core_at b h in let same : found.0 ≡ x = let e = found.1 in cc in is-on_core c x.whereabouts (subst (λ (x : Block). IsOn c x.whereabouts) same found.2))
      (λ h. on-has s placed b c k x at core_at (on_core-is c x.whereabouts h))

  choice : (x : Block) (t : Bool) (o : Option Block) → o ≡ Some x → (if t then Some (f x) else o) ≡ Some (if t then f x else x)
  choice x true o e = refl
  choice x false o e = e

  set_there : (i : ℕ) (x : Block) → slice_get s.blocks i ≡ Some x → slice_get (sets f s.blocks (share_blocks k.share) s.blocks) i ≡ Some (where_on c f x)
  set_there i x at =
      sets_at f s.blocks (share_blocks k.share) s.blocks i x refl at
      ∙ ap (λ t. if t then Some (f x) else slice_get s.blocks i) (sym (has-lists k.share i) ∙ has-on_core i x at)
      ∙ choice x (on_core c x.whereabouts) (slice_get s.blocks i) at

  mapped_by : (i : ℕ) (y : Block) (o : Option Block) → slice_get s.blocks i ≡ o → option_map (where_on c f) o ≡ Some y → slice_get (sets f s.blocks (share_blocks k.share) s.blocks) i ≡ Some y
  mapped_by i y None e h = cc
  mapped_by i y (Some x) e h = set_there i x e ∙ h

  length_mapped : (xs : List Block) → length (map (where_on c f) xs) ≡ length xs
  length_mapped [] = refl
  length_mapped (x ∷ xs) = ap suc (length_mapped xs)

  sets-mapped : sets f s.blocks (share_blocks k.share) s.blocks ≡ map (where_on c f) s.blocks
  sets-mapped = sym (same_elements (map (where_on c f) s.blocks) (sets f s.blocks (share_blocks k.share) s.blocks)
      (length_mapped s.blocks ∙ sym (sets_length f s.blocks (share_blocks k.share) s.blocks))
      (λ i y g. mapped_by i y (slice_get s.blocks i) refl (sym (slice_get-map (where_on c f) s.blocks i) ∙ g)))

  -- the state after the blocks of the share have changed
  pub applied-mapped : (m : State) → m.blocks ≡ s.blocks → apply m (change_all f (map (looked_at s.blocks) (share_blocks k.share))) ≡ record m { blocks = map (where_on c f) s.blocks }
  applied-mapped m e = applied m f s.blocks (share_blocks k.share) ∙ ap (λ l. record m { blocks = sets f s.blocks (share_blocks k.share) l }) e ∙ ap (λ l. record m { blocks = l }) sets-mapped
