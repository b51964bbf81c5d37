-- Elements of lists after a change, and the blocks of a share after they changed alike.
use Rattle.std.proofs.Common.{◌≡◌, ◌⊎◌, ℕ, zero, suc, List, [], ◌∷◌, Bool, true, false, Option, Some, None, refl, sym, ap, ◌∙◌, subst, map, inl, inr, arith}
use Rattle.std.specs.Prelude.{slice_get, slice_set, ◌==◌, ◌||◌}
use Rattle.std.specs.Option.{option_map_or}
use Rattle.std.proofs.Math.Bool.{or-true}
use Rattle.std.proofs.lemmas.Bool.Decides.{nat_tests}
use Rattle.dc_base.specs.Changes.{block_becomes, apply}
use Rattle.dc_base.specs.Orders.{change_all}
use Rattle.dc_base.specs.Outcomes.{has, share_blocks}
use Rattle.dc_base.specs.States.{State, Block, Member}
use Rattle.dc_base.specs.Turns.{looked_at}

pub same_is : (n : ℕ) → (n == n) ≡ true
same_is n = grind (arith, nat_tests)

pub is_same : (m n : ℕ) → (m == n) ≡ true → m ≡ n
is_same m n h = grind (arith, nat_tests)

pub not_same : (m n : ℕ) → (m == n) ≡ false → m ≡ n → ⊥
not_same m n h e = grind (arith, nat_tests)

pub other_is : (m n : ℕ) → (m ≡ n → ⊥) → (m == n) ≡ false
other_is m n h = grind (arith, nat_tests)

same_by : (m n : ℕ) (t : Bool) → (m == n) ≡ t → (m ≡ n) ⊎ (m ≡ n → ⊥)
same_by m n true h = inl (is_same m n h)
same_by m n false h = inr (not_same m n h)

pub same_or_not : (m n : ℕ) → (m ≡ n) ⊎ (m ≡ n → ⊥)
same_or_not m n = same_by m n (m == n) refl

pub set_here : {A : Type 0} → (xs : List A) (i : ℕ) (x y : A) → slice_get xs i ≡ Some x → slice_get (slice_set xs i y) i ≡ Some y
set_here [] i x y h = cc
set_here (a ∷ xs) zero x y h = refl
set_here (a ∷ xs) (suc i) x y h = set_here xs i x y h

pub set_other : {A : Type 0} → (xs : List A) (i j : ℕ) (y : A) → (i ≡ j → ⊥) → slice_get (slice_set xs i y) j ≡ slice_get xs j
set_other [] i j y h = refl
set_other (x ∷ xs) zero zero y h = absurd (h refl)
set_other (x ∷ xs) zero (suc j) y h = refl
set_other (x ∷ xs) (suc i) zero y h = refl
set_other (x ∷ xs) (suc i) (suc j) y h = set_other xs i j y (λ e. h (ap suc e))

-- what stands at a place after a change
pub data SetCase {A : Type 0} (xs : List A) (i : ℕ) (y : A) (j : ℕ) (z : A) : Type 0 where
  set_now : i ≡ j → z ≡ y → SetCase xs i y j z
  set_before : (i ≡ j → ⊥) → slice_get xs j ≡ Some z → SetCase xs i y j z

module _ {A : Type 0} where
  later : (xs : List A) (a : A) (i : ℕ) (y : A) (j : ℕ) (z : A) → SetCase xs i y j z → SetCase (a ∷ xs) (suc i) y (suc j) z
  later xs a i y j z (set_now e f) = set_now (ap suc e) f
  later xs a i y j z (set_before n f) = set_before (λ e. n (omega arith)) f

  pub set_case : (xs : List A) (i : ℕ) (y : A) (j : ℕ) (z : A) → slice_get (slice_set xs i y) j ≡ Some z → SetCase xs i y j z
  set_case [] i y j z h = absurd cc
  set_case (a ∷ xs) zero y zero z h = set_now refl cc
  set_case (a ∷ xs) zero y (suc j) z h = set_before (λ e. omega arith) h
  set_case (a ∷ xs) (suc i) y zero z h = set_before (λ e. omega arith) h
  set_case (a ∷ xs) (suc i) y (suc j) z h = later xs a i y j z (set_case xs i y j z h)

pub same_some : {A : Type 0} (o : Option A) (x y : A) → o ≡ Some x → o ≡ Some y → x ≡ y
same_some o x y h k = cc

-- the blocks of a share, changed alike

-- what stands at a place after the blocks of a share changed alike
pub data AllCase (f : Block → Block) (blocks : List Block) (share : List Member) (s : State) (j : ℕ) (z : Block) : Type 0 where
  was_listed : has share j ≡ true → (x : Block) → slice_get blocks j ≡ Some x → z ≡ f x → AllCase f blocks share s j z
  not_listed : has share j ≡ false → slice_get s.blocks j ≡ Some z → AllCase f blocks share s j z

module _ (f : Block → Block) (blocks : List Block) where
  abbrev after : List Member → State → State
  after share s = apply s (change_all f (map (looked_at blocks) (share_blocks share)))

  back_case : (m : Member) (ms : List Member) (s : State) (x : Block) (j : ℕ) (z : Block) → slice_get blocks m.block ≡ Some x → AllCase f blocks ms (record s { blocks = slice_set s.blocks m.block (f x) }) j z → AllCase f blocks (m ∷ ms) s j z
  back_case m ms s x j z h (was_listed l y e q) = was_listed (ap (λ u. (m.block == j) || u) l ∙ or-true (m.block == j)) y e q
  back_case m ms s x j z h (not_listed l e) = by_set (set_case s.blocks m.block (f x) j z e)
    where
      by_set : SetCase s.blocks m.block (f x) j z → AllCase f blocks (m ∷ ms) s j z
      by_set (set_now same q) = was_listed (ap (λ u. u || has ms j) (subst (λ n. (m.block == n) ≡ true) same (same_is m.block))) x (subst (λ n. slice_get blocks n ≡ Some x) same h) q
      by_set (set_before other q) = not_listed (ap (λ u. u || has ms j) (other_is m.block j other) ∙ l) q

  -- where each block is found that is there
  abbrev Finds : State → Type 0
  Finds s = (j : ℕ) (z : Block) → slice_get s.blocks j ≡ Some z → (x : Block) × (slice_get blocks j ≡ Some x)

  finds_set : (s : State) (b : ℕ) (x y : Block) → slice_get blocks b ≡ Some x → Finds s → Finds (record s { blocks = slice_set s.blocks b y })
  finds_set s b x y h all j z e = by_set (set_case s.blocks b y j z e)
    where
      by_set : SetCase s.blocks b y j z → (w : Block) × (slice_get blocks j ≡ Some w)
      by_set (set_now same q) = (x, subst (λ n. slice_get blocks n ≡ Some x) same h)
      by_set (set_before other q) = all j z q

  all_by : (m : Member) (ms : List Member) (s : State) (j : ℕ) (z : Block) → Finds s → ((u : State) → Finds u → slice_get (after ms u).blocks j ≡ Some z → AllCase f blocks ms u j z) → (o : Option Block) → slice_get blocks m.block ≡ o →
      slice_get (apply s (option_map_or (λ x. block_becomes m.block (f x) ∷ change_all f (map (looked_at blocks) (share_blocks ms))) o (change_all f (map (looked_at blocks) (share_blocks ms))))).blocks j ≡ Some z →
      AllCase f blocks (m ∷ ms) s j z
  all_by m ms s j z finds more (Some x) h e = back_case m ms s x j z h (more (record s { blocks = slice_set s.blocks m.block (f x) }) (finds_set s m.block x (f x) h finds) e)
  all_by m ms s j z finds more None h e = none_by (more s finds e)
    where
      none_by : AllCase f blocks ms s j z → AllCase f blocks (m ∷ ms) s j z
      none_by (was_listed l y g q) = was_listed (ap (λ u. (m.block == j) || u) l ∙ or-true (m.block == j)) y g q
      none_by (not_listed l g) = not_listed (ap (λ u. u || has ms j) (other_is m.block j (λ same. let p = finds j z g in let q : slice_get blocks m.block ≡ Some p.0 = ap (slice_get blocks) same ∙ p.1 in cc)) ∙ l) g

  all_case : (share : List Member) (s : State) (j : ℕ) (z : Block) → Finds s → slice_get (after share s).blocks j ≡ Some z → AllCase f blocks share s j z
  all_case [] s j z finds e = not_listed refl e
  all_case (m ∷ ms) s j z finds e = all_by m ms s j z finds (λ u fu g. all_case ms u j z fu g) (slice_get blocks m.block) refl e

  cores_by : (m : Member) (ms : List Member) (s : State) → ((u : State) → (after ms u).cores ≡ u.cores) → (o : Option Block) →
      (apply s (option_map_or (λ x. block_becomes m.block (f x) ∷ change_all f (map (looked_at blocks) (share_blocks ms))) o (change_all f (map (looked_at blocks) (share_blocks ms))))).cores ≡ s.cores
  cores_by m ms s more None = more s
  cores_by m ms s more (Some x) = more (record s { blocks = slice_set s.blocks m.block (f x) })

  pub all_cores : (share : List Member) (s : State) → (after share s).cores ≡ s.cores
  all_cores [] s = refl
  all_cores (m ∷ ms) s = cores_by m ms s (λ u. all_cores ms u) (slice_get blocks m.block)

-- a block after those of a share changed alike
pub block_case : (f : Block → Block) (s t : State) (share : List Member) (j : ℕ) (z : Block) → t.blocks ≡ s.blocks → slice_get (apply t (change_all f (map (looked_at s.blocks) (share_blocks share)))).blocks j ≡ Some z → AllCase f s.blocks share t j z
block_case f s t share j z same e = all_case f s.blocks share t j z (λ i x h. (x, ap (λ bs. slice_get bs i) (sym same) ∙ h)) e
