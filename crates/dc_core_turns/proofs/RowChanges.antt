-- A block of a row changes in its place.
use Rattle.std.proofs.Common.{◌≡◌, ℕ, true, true≢false, List, Some, sym, ap, ◌∙◌, subst, inl, inr, get_or}
use Rattle.std.specs.Prelude.{slice_get, slice_set}
use Rattle.std.proofs.lemmas.List.{length-set}
use Rattle.std.proofs.lemmas.Option.{get_or_from_slice_get, slice_get_within}
use Rattle.dc_base.specs.Outcomes.{has as in_share}
use Rattle.dc_base.specs.States.{State, Block}
use Rattle.dc_block_sound.proofs.Elements.{set_here, set_other, same_or_not}
use Rattle.dc_hands.specs.declared.hands.CoreHand.{CoreHand}
use Rattle.dc_core_turns.specs.Beside.{StandsIn}
use Rattle.dc_core_turns.specs.Lending.{IsPutIn}
use Rattle.dc_hands.specs.Rows.{Rowed, IsRow, in_row, place_in}
use Rattle.dc_core_turns.proofs.MadeTurns.{AreSame}
use Rattle.dc_hands.proofs.Rowing.{places_apart}

-- the row with another block in the place of this one
abbrev pub with_block : Rowed → ℕ → Block → Rowed
with_block r b y = record { numbers = r.numbers; blocks = slice_set r.blocks (place_in r.numbers b) y }

module _ (r : Rowed) (ok : IsRow r) (b : ℕ) (y : Block) where
  pub still_row : IsRow (with_block r b y)
  still_row = record {
    each = ok.each ∙ sym (length-set r.blocks (place_in r.numbers b) y);
    once = ok.once;
  }

  pub put_in : (x : Block) → in_row r b ≡ Some x → IsPutIn b y r (with_block r b y)
  put_in x there = record {
    here = set_here r.blocks (place_in r.numbers b) x y there;
    others = λ n other. set_other r.blocks (place_in r.numbers b) (place_in r.numbers n) y
        (λ e. other (places_apart r ok b n (slice_get_within r.blocks (place_in r.numbers b) x there) (sym e)));
  }

module _ {D : Type 0} (h g : CoreHand D) (s t : State) (stands : StandsIn h s) (same : AreSame h.core.share g.core.share)
    (core : slice_get t.cores g.number.0 ≡ Some g.core) where
  -- the hand in a state in which one block of it changed
  pub stands_changed : (b : ℕ) (y : Block) → in_share h.core.share b ≡ true → IsPutIn b y h.row g.row → t.blocks ≡ slice_set s.blocks b y → StandsIn g t
  stands_changed b y listed put blocks = record {
    core = core;
    blocks = λ n i. elim (same_or_not b n) [
      | inl e ↦ (
          let x = stands.blocks b listed in
          (y, ap (in_row g.row) (sym e) ∙ put.here, ap (λ (bs : List Block). slice_get bs n) blocks ∙ (ap (slice_get (slice_set s.blocks b y)) (sym e) ∙ set_here s.blocks b x.0 y x.2)))
      | inr other ↦ (
          let x = stands.blocks n (sym (same n) ∙ i) in
          (x.0, put.others n (λ e. other (sym e)) ∙ x.1, ap (λ (bs : List Block). slice_get bs n) blocks ∙ (set_other s.blocks b n y other ∙ x.2)))
    ];
    others = λ n out.
        put.others n (λ e. true≢false (sym listed ∙ (ap (in_share h.core.share) (sym e) ∙ (sym (same n) ∙ out)))) ∙ stands.others n (sym (same n) ∙ out);
  }

  -- the hand in a state in which no block changed
  pub stands_alike : g.row ≡ h.row → t.blocks ≡ s.blocks → StandsIn g t
  stands_alike row blocks = record {
    core = core;
    blocks = λ n i.
        let x = stands.blocks n (sym (same n) ∙ i) in
        (x.0, ap (λ r. in_row r n) row ∙ x.1, ap (λ (bs : List Block). slice_get bs n) blocks ∙ x.2);
    others = λ n out. ap (λ r. in_row r n) row ∙ stands.others n (sym (same n) ∙ out);
  }

-- a row by its parts, of which one block is read and written at its place
module _ (r now : Rowed) (is : r ≡ now) (b i : ℕ) (place : i ≡ place_in r.numbers b) (x : Block) (there : in_row now b ≡ Some x) where
  there_is : slice_get r.blocks i ≡ Some x
  there_is = ap (slice_get r.blocks) place ∙ (ap (λ (q : Rowed). in_row q b) is ∙ there)

  pub read_at : (v : Block) → v ≡ get_or r.blocks i v → v ≡ x
  read_at v e = e ∙ get_or_from_slice_get r.blocks i x v there_is

  pub put_at : IsRow r → (y : Block) → IsPutIn b y now (record { numbers = r.numbers; blocks = slice_set r.blocks i y })
  put_at ok y =
      subst (λ (q : Rowed). IsPutIn b y q (record { numbers = r.numbers; blocks = slice_set r.blocks i y })) is
      (subst (λ j. IsPutIn b y r (record { numbers = r.numbers; blocks = slice_set r.blocks j y })) (sym place)
      (put_in r ok b y x (ap (λ (q : Rowed). in_row q b) is ∙ there)))
