-- A core tries one thing after another in vain.
use Rattle.std.proofs.Common.{◌≡◌, ◌<◌, ◌+◌, ℕ, suc, zero, Some, length, refl, sym, ap, ◌∙◌, subst, inl, inr, arith}
use Rattle.std.specs.Prelude.{◌⊎◌, slice_get}
use Rattle.std.proofs.lemmas.Option.{slice_get_within}
use Rattle.std.proofs.lemmas.List.{length-map}
use Rattle.dc_base.specs.declared.actions.Action.{Action}
use Rattle.dc_base.specs.declared.actions.Action.TheVariants as action
use Rattle.dc_base.specs.declared.actions.Actor.TheVariants as actor
use Rattle.dc_base.specs.declared.numbers.CoreNo.{CoreNo}
use Rattle.dc_base.specs.Valid.{IsActionOf}
use Rattle.dc_base.specs.declared.dispatchers.DispState.{DispState}
use Rattle.dc_base.specs.Outcomes.{share_blocks}
use Rattle.dc_base.specs.States.{Block, Core, Member, Settings}
use Rattle.dc_base.specs.Words.{Each}
use Rattle.dc_runs.specs.Tries.{AreWakesInVain, IsInVain, IsTriedOut}
use Rattle.dc_hands.specs.declared.hands.CoreHand.{CoreHand}
use Rattle.dc_hands.specs.Machines.{IsOpened, Staged, Passing, state_after}
use Rattle.dc_hands.specs.Hands.{EachWaiter}
use Rattle.dc_hands.proofs.Sounding.{sized_after}
use Rattle.dc_hands.specs.Rows.{in_row}
use Rattle.dc_rounds.specs.Working.{IsPlain, IsStill, IsTriedDisp, TriedDisps, TriedLines, TriedShare}

-- a number below the next one is this one or below it
below_next : (j i : ℕ) → j < i + 1 → (j ≡ i) ⊎ (j < i)
below_next zero zero h = inl refl
below_next zero (suc i) h = inr (omega arith)
below_next (suc j) zero h = absurd (omega arith)
below_next (suc j) (suc i) h = elim (below_next j i (omega arith)) [ inl e ↦ inl (ap suc e) | inr e ↦ inr (omega (arith, e)) ]

pub still_now : {D : Type 0} (k : Passing D) (h : CoreHand D) → IsStill k k h h
still_now k h = record { seen = refl; hand = refl }

pub still_through : {D : Type 0} (k l m : Passing D) (h i j : CoreHand D) → IsStill k l h i → IsStill l m i j → IsStill k m h j
still_through k l m h i j a b = record { seen = b.seen ∙ a.seen; hand = b.hand ∙ a.hand }

module _ {D : Type 0} (st : Staged D) (k l : Passing D) (h g : CoreHand D) (still : IsStill k l h g) where
  -- what was in vain is so still
  pub vain_still : (a : Action) → IsInVain (state_after st k.seen) h.number.0 a → IsInVain (state_after st l.seen) g.number.0 a
  vain_still a v = subst (λ (m : CoreHand D). IsInVain (state_after st l.seen) m.number.0 a) (sym still.hand)
      (subst (λ seen. IsInVain (state_after st seen) h.number.0 a) (sym still.seen) v)

  pub lines_still : (n : ℕ) → TriedLines st k h.number.0 n → TriedLines st l g.number.0 n
  lines_still n t i below = vain_still (action.Intake (record { 0 = i })) (t i below)

  pub disps_still : (b n : ℕ) → TriedDisps st k h b n → TriedDisps st l g b n
  disps_still b n t d below x state at there waits =
      vain_still (action.Wake (record { 0 = b }) (record { 0 = d })) (t d below x state (subst (λ (m : CoreHand D). in_row m.row b ≡ Some x) still.hand at) there waits)

  pub share_still : (n : ℕ) → TriedShare st k h n → TriedShare st l g n
  share_still n t j b below at x row d state there waits =
      vain_still (action.Wake (record { 0 = b }) (record { 0 = d }))
      (t j b below (subst (λ (m : CoreHand D). slice_get (share_blocks m.core.share) j ≡ Some b) still.hand at) x
      (subst (λ (m : CoreHand D). in_row m.row b ≡ Some x) still.hand row) d state there waits)

module _ {D : Type 0} (st : Staged D) (k : Passing D) (h : CoreHand D) where
  -- one line more
  pub lines_more : (i : ℕ) → TriedLines st k h.number.0 i → IsInVain (state_after st k.seen) h.number.0 (action.Intake (record { 0 = i }))
      → TriedLines st k h.number.0 (i + 1)
  lines_more i t v j below = by_cases (below_next j i below)
    where
      by_cases : (j ≡ i) ⊎ (j < i) → IsInVain (state_after st k.seen) h.number.0 (action.Intake (record { 0 = j }))
      by_cases (inl e) = subst (λ n. IsInVain (state_after st k.seen) h.number.0 (action.Intake (record { 0 = n }))) (sym e) v
      by_cases (inr b) = t j b

  -- one dispatcher more
  pub disps_more : (b i : ℕ) → TriedDisps st k h b i → IsTriedDisp st k h b i → TriedDisps st k h b (i + 1)
  disps_more b i t v d below = by_cases (below_next d i below)
    where
      by_cases : (d ≡ i) ⊎ (d < i) → IsTriedDisp st k h b d
      by_cases (inl e) = subst (λ n. IsTriedDisp st k h b n) (sym e) v
      by_cases (inr b) = t d b

  -- one block more
  pub share_more : (i b : ℕ) → TriedShare st k h i → slice_get (share_blocks h.core.share) i ≡ Some b
      → ((x : Block) → in_row h.row b ≡ Some x → TriedDisps st k h b (length x.control.states))
      → TriedShare st k h (i + 1)
  share_more i b t at v j c below there x row d state stands waits = by_cases (below_next j i below)
    where
      by_cases : (j ≡ i) ⊎ (j < i) → IsInVain (state_after st k.seen) h.number.0 (action.Wake (record { 0 = c }) (record { 0 = d }))
      by_cases (inr b) = t j c b there x row d state stands waits
      by_cases (inl e) =
          let same : c ≡ b = some_same c b (sym there ∙ (ap (slice_get (share_blocks h.core.share)) e ∙ at)) in
          let row_b : in_row h.row b ≡ Some x = subst (λ n. in_row h.row n ≡ Some x) same row in
          subst (λ n. IsInVain (state_after st k.seen) h.number.0 (action.Wake (record { 0 = n }) (record { 0 = d }))) (sym same)
          (v x row_b d (within x.control.states d state stands) x state row_b stands waits)
        where
          some_same : (m n : ℕ) → Some m ≡ Some n → m ≡ n
          some_same m n s = cc

          within : (xs : _) (d : ℕ) (state : DispState) → slice_get xs d ≡ Some state → d < length xs
          within xs d state s = slice_get_within xs d state s

-- a core that tried all in vain is tried out
module _ {D : Type 0} (st : Staged D) (opened : IsOpened st) (k : Passing D) (h : CoreHand D) where
  each_waiter : TriedShare st k h (length h.core.share)
      → EachWaiter h (λ b d. IsInVain (state_after st k.seen) h.number.0 (action.Wake (record { 0 = b }) (record { 0 = d })))
  each_waiter t i b at x row d state stands waits =
      t i b (subst (λ n. i < n) (length-map h.core.share _) (slice_get_within (share_blocks h.core.share) i b at)) at x row d state stands waits

  pub tried_out : IsInVain (state_after st k.seen) h.number.0 action.Step → IsInVain (state_after st k.seen) h.number.0 action.Order
      → TriedLines st k h.number.0 st.scene.settings.lines → TriedShare st k h (length h.core.share)
      → (EachWaiter h (λ b d. IsInVain (state_after st k.seen) h.number.0 (action.Wake (record { 0 = b }) (record { 0 = d }))) →
      (y : Core) → slice_get (state_after st k.seen).cores h.number.0 ≡ Some y →
      Each y.share (λ i (m : Member). AreWakesInVain (state_after st k.seen) h.number.0 m.block))
      → IsTriedOut (state_after st k.seen) h.number.0
  tried_out step order lines share shown = record {
    step = step;
    order = order;
    intakes = λ l below. lines l (subst (λ n. l < n) (sized_after st opened k.seen).lines below);
    wakes = shown (each_waiter share);
  }

-- an order or a step is an action of each core
pub plain_within : (t : Settings) (c : CoreNo) (a : Action) → IsPlain a → c.0 < t.cores → IsActionOf t (actor.Core c) a
plain_within t c action.Order p w = (w, tt)
plain_within t c action.Step p w = (w, tt)
plain_within t c (action.Intake l) p w = absurd p
plain_within t c (action.Wake b d) p w = absurd p
plain_within t c action.Script p w = absurd p
plain_within t c action.Raise p w = absurd p
