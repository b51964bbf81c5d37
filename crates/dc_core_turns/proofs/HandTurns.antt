-- What a core's step comes to, by what stands in its hand.
use Rattle.std.proofs.Common.{◌≡◌, ℕ, true, List, [], ◌∷◌, ◌||◌, ◌==◌, Option, Some, None, refl, sym, ap, ◌∙◌, subst}
use Rattle.std.specs.Prelude.{slice_get}
use Rattle.std.proofs.Math.Bool.{or-true}
use Rattle.dc_base.specs.declared.actions.Action.TheVariants as action
use Rattle.dc_base.specs.declared.actions.Actor.TheVariants as actor
use Rattle.dc_base.specs.declared.entries.Reason.TheVariants as reason
use Rattle.dc_base.specs.declared.numbers.BlockNo.{BlockNo}
use Rattle.dc_base.specs.Cores.{core_step}
use Rattle.dc_base.specs.IdleTurns.{idle_outcome, next_due}
use Rattle.std.proofs.lemmas.Option.{same_Some}
use Rattle.dc_base.specs.Outcomes.{has}
use Rattle.dc_base.specs.Placed.{IsOn}
use Rattle.dc_base.specs.SliceTurns.{slice_turn}
use Rattle.dc_base.specs.Sound.{IsSound}
use Rattle.dc_base.specs.States.{State, Block, Member}
use Rattle.dc_base.specs.Steps.{is_runnable}
use Rattle.dc_base.specs.Turns.{Looked, not_enabled, outcome}
use Rattle.dc_block_sound.proofs.Elements.{same_is}
use Rattle.dc_bodies.specs.InHand.{AreInHand, IsInHand, looked_in}
use Rattle.dc_bodies.specs.Nexts.{first_runnable}
use Rattle.dc_bodies.specs.Stops.{stopped}
use Rattle.dc_bodies.proofs.Firsts.{found_one}
use Rattle.dc_machine.proofs.CoreTurns.{idles, slices}
use Rattle.dc_machine.proofs.InHands.{block_in_hand}
use Rattle.dc_hands.specs.declared.hands.CoreHand.{CoreHand}
use Rattle.dc_core_turns.specs.Beside.{StandsIn}
use Rattle.dc_hands.specs.Rows.{in_row}

looked_alike : (f g : ℕ → Option Block) (share : List Member) → ((b : ℕ) → has share b ≡ true → f b ≡ g b) → looked_in f share ≡ looked_in g share
looked_alike f g [] h = refl
looked_alike f g (m ∷ ms) h =
    let one : f m.block ≡ g m.block = h m.block (ap (λ t. t || has ms m.block) (same_is m.block)) in
    let more : looked_in f ms ≡ looked_in g ms = looked_alike f g ms (λ b i. h b (ap (λ t. (m.block == b) || t) i ∙ or-true (m.block == b))) in
    pair (record { number = m.block; found = f m.block }) (record { number = m.block; found = g m.block }) (looked_in f ms) (looked_in g ms)
    (ap (λ (o : Option Block). record { number = m.block; found = o }) one) more
  where
    pair : (x y : Looked) (xs ys : List Looked) → x ≡ y → xs ≡ ys → x ∷ xs ≡ y ∷ ys
    pair x y xs ys e f = rw (e, f)

module _ {D : Type 0} (h : CoreHand D) where
  -- the blocks of the hand, looked at
  abbrev pub seen : List Looked
  seen = looked_in (in_row h.row) h.core.share

  -- the first block that can run is in the hand
  module _ (b : BlockNo) (x : Block) (first : first_runnable h.core seen ≡ Some (record { number = b.0; found = Some x })) where
    pub first_here : in_row h.row b.0 ≡ Some x
    first_here = let p = found_one (in_row h.row) (is_runnable h.core.clock) h.core.share (record { number = b.0; found = Some x }) first in sym (ap (λ (l : Looked). l.found) p.0)

    pub first_listed : has h.core.share b.0 ≡ true
    first_listed = (found_one (in_row h.row) (is_runnable h.core.clock) h.core.share (record { number = b.0; found = Some x }) first).1

  module _ (s : State) (stands : StandsIn h s) where
    pub looked_same : looked_in (slice_get s.blocks) h.core.share ≡ seen
    looked_same = looked_alike (slice_get s.blocks) (in_row h.row) h.core.share (λ b i. let x = stands.blocks b i in x.2 ∙ sym x.1)

    -- a block of the hand is the machine's
    pub in_machine : (b : ℕ) (x : Block) → has h.core.share b ≡ true → in_row h.row b ≡ Some x → slice_get s.blocks b ≡ Some x
    in_machine b x i e = let y = stands.blocks b i in y.2 ∙ (sym y.1 ∙ e)

    -- the blocks of the share are in the hand, within bounds, and their deadlines are near
    pub hand_bounds : IsSound s → (b : ℕ) (x : Block) → has h.core.share b ≡ true → in_row h.row b ≡ Some x → IsInHand h.number.0 h.core.clock x
    hand_bounds sound b x i e =
        let p = sound.placed.only h.number.0 h.core stands.core b i in
        let same : Some p.0 ≡ Some x = sym p.1 ∙ in_machine b x i e in
        block_in_hand s sound h.number.0 h.core b x stands.core (in_machine b x i e) (subst (λ (y : Block). IsOn h.number.0 y.whereabouts) (same_Some p.0 x same) p.2)

    pub hand_ready : IsSound s → AreInHand h.number.0 h.core (in_row h.row)
    hand_ready sound b i = let x = stands.blocks b i in (x.0, x.1, hand_bounds sound b x.0 i x.1)

    module _ (acts : stopped h.core ≡ None) where
      -- no block can run: the core idles, if a timer is due some time
      pub step_idles : first_runnable h.core seen ≡ None → core_step s 0 (actor.Core h.number) action.Step ≡ idle_outcome h.number.0 h.core (next_due seen)
      step_idles none =
          idles s h.number h.core stands.core acts (ap (first_runnable h.core) looked_same ∙ none)
          ∙ ap (λ ls. idle_outcome h.number.0 h.core (next_due ls)) looked_same

      pub step_nothing : first_runnable h.core seen ≡ None → next_due seen ≡ None → core_step s 0 (actor.Core h.number) action.Step ≡ not_enabled reason.Nothing
      unfolding idle_outcome
      step_nothing none due = step_idles none ∙ ap (idle_outcome h.number.0 h.core) due

      -- the first block that can run has a slice
      pub step_slices : (b : BlockNo) (x : Block) → first_runnable h.core seen ≡ Some (record { number = b.0; found = Some x }) →
          core_step s 0 (actor.Core h.number) action.Step ≡ outcome s (slice_turn h.number.0 h.core b.0 (Some x))
      step_slices b x first =
          slices s h.number h.core stands.core b x (ap (first_runnable h.core) looked_same ∙ first) acts
          ∙ ap (λ o. outcome s (slice_turn h.number.0 h.core b.0 o)) (in_machine b.0 x (first_listed b x first) (first_here b x first))
