-- A core at work, where more was seen.
use Rattle.std.proofs.Common.{◌≡◌, ℕ, true, ap, ◌∙◌}
use Rattle.std.specs.Prelude.{slice_get}
use Rattle.dc_base.specs.Changes.{a_core, a_block, core, block}
use Rattle.dc_stage.specs.Numbers.{has}
use Rattle.dc_stage.specs.Passes.{having_seen}
use Rattle.dc_hands.specs.declared.hands.CoreHand.{CoreHand}
use Rattle.dc_hands.specs.Machines.{Staged, Passing, IsOpened, IsLawfulHere, state_after}
use Rattle.dc_hands.specs.Holding.{SeesOn}
use Rattle.dc_hands.specs.Hands.{HoldsCore}
use Rattle.dc_hands.proofs.Seeing.{has_later}
use Rattle.dc_hands.proofs.HeldHands.{holds_core, holds_block}
use Rattle.dc_hands.proofs.RowHolds.{core_there, block_there}

module _ {D : Type 0} (st : Staged D) (opened : IsOpened st) (k l : Passing D) (h : CoreHand D) (same : l ≡ having_seen k l.seen) (on : SeesOn st k l.seen) where
  -- the hand stands as before
  pub hand_seen : IsLawfulHere st l.seen → HoldsCore st k h → HoldsCore st l h
  hand_seen lawful holds =
      let held : l.holds ≡ k.holds = ap (λ (p : Passing D). p.holds) same in
      let still = λ (i : ℕ) (y : has i k.holds ≡ true). ap (has i) held ∙ y in
      record {
        actor = ap (λ (p : Passing D). p.actor) same ∙ holds.actor;
        lawful = lawful;
        core = core_there (slice_get (state_after st l.seen).cores h.number.0) h.core (has_later st k l (a_core h.number.0) (core h.core) (holds_core st opened k h holds) on still).stands;
        blocks = λ b i. let x = holds.blocks b i in
            (x.0, x.1, block_there (slice_get (state_after st l.seen).blocks b) x.0 (has_later st k l (a_block b) (block x.0) (holds_block st opened k h holds b x.0 i x.2) on still).stands);
        others = holds.others;
        holds = λ i. ap (has i) held ∙ holds.holds i;
      }
