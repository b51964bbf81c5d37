-- The latches of a line, counted signal by signal and block by block.
use Rattle.std.proofs.Common.{◌≡◌, ℕ, zero, suc, ◌+◌, ◌<◌, ◌≤◌, List, [], ◌∷◌, Bool, true, false, Some, None, refl, sym, ap, ◌∙◌, length, get_or, take, arith}
use Rattle.std.specs.Prelude.{Option, slice_get, count_by, sum_by}
use Rattle.std.proofs.lemmas.List.Sums.{count_by_more_yes, count_by_more_no, count_by-le-length, sum_by_more}
use Rattle.std.proofs.lemmas.Option.{slice_get_read}
use Rattle.dc_base.specs.declared.interrupts.Latch.{Latch}
use Rattle.dc_base.specs.KeptByBlocks.{AllShapes}
use Rattle.dc_base.specs.Ports.{latch_at}
use Rattle.dc_base.specs.Report.{is_latch_of}
use Rattle.dc_base.specs.States.{State, Block}

latch_or : (signals : List (Option Latch)) (s : ℕ) → latch_at signals s ≡ get_or signals s None
latch_or [] zero = refl
latch_or [] (suc s) = refl
latch_or (o ∷ signals) zero = refl
latch_or (o ∷ signals) (suc s) = latch_or signals s

module _ (l : ℕ) (signals : List (Option Latch)) (s : ℕ) (within : s < length signals) (held : Option Latch) (is : held ≡ latch_at signals s) (answer : Bool) (tests : answer ≡ is_latch_of l held) where
  tested : (t : Bool) → answer ≡ t → is_latch_of l (get_or signals s None) ≡ t
  tested t h = ap (is_latch_of l) (sym (latch_or signals s)) ∙ (ap (is_latch_of l) (sym is) ∙ (sym tests ∙ h))

  pub one_more : answer ≡ true → count_by (is_latch_of l) (take (s + 1) signals) ≡ count_by (is_latch_of l) (take s signals) + 1
  one_more h = count_by_more_yes (is_latch_of l) signals s None within (tested true h)

  pub no_more : answer ≡ false → count_by (is_latch_of l) (take (s + 1) signals) ≡ count_by (is_latch_of l) (take s signals)
  no_more h = count_by_more_no (is_latch_of l) signals s None within (tested false h)

pub at_most : (l : ℕ) (signals : List (Option Latch)) → count_by (is_latch_of l) signals ≤ length signals
at_most l signals = count_by-le-length (is_latch_of l) signals

abbrev pub in_block : ℕ → Block → ℕ
in_block l x = count_by (is_latch_of l) x.control.parts.signals

pub block_more : (l : ℕ) (blocks : List Block) (i : ℕ) (x : Block) → i < length blocks → x ≡ get_or blocks i x → sum_by (in_block l) (take (i + 1) blocks) ≡ sum_by (in_block l) (take i blocks) + in_block l x
block_more l blocks i x within e = sum_by_more (in_block l) blocks i x within ∙ ap (λ y. sum_by (in_block l) (take i blocks) + in_block l y) (sym e)

pub block_within : (s : State) (l : ℕ) (blocks : List Block) (i : ℕ) (x : Block) → AllShapes s → blocks ≡ s.blocks → i < length blocks → x ≡ get_or blocks i x → in_block l x ≤ 16
block_within s l blocks i x shapes same within e =
    let there : slice_get s.blocks i ≡ Some x = ap (λ (bs : List Block). slice_get bs i) (sym same) ∙ slice_get_read blocks (length blocks) i x refl within e in
    let shape = shapes i x there in
    let many = shape.signals in
    let most = at_most l x.control.parts.signals in
    omega (arith, many, most)
