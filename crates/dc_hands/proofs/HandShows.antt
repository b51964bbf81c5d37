-- What a core's hand shows is so in the machine.
use Rattle.std.proofs.Common.{◌≡◌, ℕ, Some, sym, ap, ◌∙◌, subst, inl, inr}
use Rattle.std.specs.Prelude.{slice_get}
use Rattle.std.specs.Option.{option_map}
use Rattle.std.proofs.lemmas.Bool.{cases_Bool}
use Rattle.std.proofs.lemmas.Option.{none-some, same_Some, slice_get-map}
use Rattle.dc_base.specs.declared.actions.Action.TheVariants as action
use Rattle.dc_base.specs.KeptByBlocks.{HasShape}
use Rattle.dc_base.specs.Outcomes.{share_blocks}
use Rattle.dc_base.specs.Outcomes.{has as in_share}
use Rattle.dc_base.specs.States.{Core, Block, Member}
use Rattle.dc_base.specs.Words.{Each}
use Rattle.dc_runs.specs.Tries.{AreWakesInVain, IsInVain}
use Rattle.dc_hands.specs.declared.hands.CoreHand.{CoreHand}
use Rattle.dc_hands.specs.Hands.{EachWaiter, HoldsCore}
use Rattle.dc_hands.specs.Machines.{IsOpened, Passing, Staged, state_after}
use Rattle.dc_hands.specs.Rows.{in_row}
use Rattle.dc_hands.proofs.ShareRows.{at_in_share}
use Rattle.dc_hands.proofs.Sounding.{sound_after}

module _ {D : Type 0} (st : Staged D) (k : Passing D) (h : CoreHand D) (holds : HoldsCore st k h) where
  -- a block of the row stands so in the machine
  shown_block : (b : ℕ) (x : Block) → in_row h.row b ≡ Some x → slice_get (state_after st k.seen).blocks b ≡ Some x
  shown_block b x e = elim (cases_Bool (in_share h.core.share b)) [
    | inl here ↦ (let y = holds.blocks b here in y.2 ∙ ap Some (same_Some y.0 x (sym y.1 ∙ e)))
    | inr gone ↦ absurd (none-some x (sym (holds.others b gone) ∙ e))
  ]

  pub shapes_shown : IsOpened st → (b : ℕ) (x : Block) → in_row h.row b ≡ Some x → HasShape x.control
  shapes_shown opened b x e = (sound_after st opened k.seen holds.lawful).shapes b x (shown_block b x e)

  abbrev InVain : ℕ → ℕ → Type 0
  InVain b d = IsInVain (state_after st k.seen) h.number.0 (action.Wake (record { 0 = b }) (record { 0 = d }))

  wakes_at : EachWaiter h InVain → (i : ℕ) (m : Member) → slice_get h.core.share i ≡ Some m → AreWakesInVain (state_after st k.seen) h.number.0 m.block
  wakes_at each i m e x at =
      let placed : slice_get (share_blocks h.core.share) i ≡ Some m.block =
      slice_get-map (λ (n : Member). n.block) h.core.share i ∙ ap (option_map (λ (n : Member). n.block)) e in
      let y = holds.blocks m.block (at_in_share h.core.share i m.block placed) in
      let same : y.0 ≡ x = same_Some y.0 x (sym y.2 ∙ at) in
      each i m.block placed x (y.1 ∙ ap Some same)

  pub wakes_shown : EachWaiter h InVain → (y : Core) → slice_get (state_after st k.seen).cores h.number.0 ≡ Some y
      → Each y.share (λ i (m : Member). AreWakesInVain (state_after st k.seen) h.number.0 m.block)
  wakes_shown each y at =
      let same : h.core ≡ y = same_Some h.core y (sym holds.core ∙ at) in
      subst (λ (z : Core). Each z.share (λ i (m : Member). AreWakesInVain (state_after st k.seen) h.number.0 m.block)) same (wakes_at each)
