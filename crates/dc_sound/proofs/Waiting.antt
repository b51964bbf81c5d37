-- A dispatcher that waits on a channel stands at a call on a channel, and stays there.
use Rattle.std.proofs.Common.{◌≡◌, ◌⊎◌, ℕ, List, Bool, true, false, Some, sym, ap, ◌∙◌, subst, inl, inr}
use Rattle.std.specs.Prelude.{slice_get, slice_set, if◌then◌else◌}
use Rattle.dc_base.specs.declared.dispatchers.DispState.{DispState}
use Rattle.dc_base.specs.declared.dispatchers.DispState.TheVariants as disp
use Rattle.dc_base.specs.declared.dispatchers.Wait.{Wait}
use Rattle.dc_base.specs.declared.dispatchers.Wait.TheVariants as wait
use Rattle.dc_base.specs.declared.entries.Entry.{Entry}
use Rattle.dc_base.specs.Words.{Each, bind}
use Rattle.dc_base.specs.Changes.{Change, apply}
use Rattle.dc_base.specs.ControlBlocks.{ControlBlock}
use Rattle.dc_base.specs.Effects.{Context, with_reg, at_next_place}
use Rattle.dc_base.specs.Firing.{waits_so, state_after_wake}
use Rattle.dc_base.specs.Instructions.{decode}
use Rattle.dc_base.specs.KeptByBlocks.{AllReady}
use Rattle.dc_base.specs.Named.{is_channel_call, waits_on_channel, instr_of, WaitersStand}
use Rattle.dc_base.specs.States.{State}
use Rattle.dc_sound.proofs.ControlKept.{kept_alone}
use Rattle.dc_block_sound.proofs.ControlSteps.{MayWait, IsStill, woken, stands_still, held_up, went, moved_on, latch_taken, StepKeeps}
use Rattle.dc_block_sound.proofs.Elements.{SetCase, set_now, set_before, set_case, set_other, same_or_not, same_some}
use Rattle.dc_sound.proofs.EntryKinds.{Kind}
use Rattle.dc_block_sound.proofs.Seats.{map_there}

-- each dispatcher that waits on a channel stands at a call on a channel
abbrev pub Stands : ControlBlock → Type 0
Stands x = Each x.states (λ d state. waits_on_channel state ≡ true → is_channel_call (instr_of x.parts d) ≡ true)

waited : (w : Wait) (state : DispState) → waits_on_channel (state_after_wake w state) ≡ true → waits_on_channel state ≡ true
waited w state = by_test (waits_so w state)
  where
    by_test : (t : Bool) → waits_on_channel (if t then disp.Ready else state) ≡ true → waits_on_channel state ≡ true
    by_test true h = absurd cc
    by_test false h = h

still_waits : (state : DispState) → IsStill state → waits_on_channel state ≡ true → ⊥
still_waits disp.Ready f h = cc
still_waits disp.Halted f h = cc
still_waits (disp.Trapped n) f h = cc
still_waits (disp.Waits w) f h = f

held_stands : (x : ControlBlock) (d : ℕ) (w : Wait) → MayWait x d w → waits_on_channel (disp.Waits w) ≡ true → is_channel_call (instr_of x.parts d) ≡ true
held_stands x d (wait.Csend y) m h = m.1
held_stands x d (wait.Crecv y) m h = m.1
held_stands x d w m h = absurd cc

module _ (x : ControlBlock) (h : Stands x) (d : ℕ) where
  set_stands : (new : DispState) → (waits_on_channel new ≡ true → is_channel_call (instr_of x.parts d) ≡ true) → (e : ℕ) (state : DispState) → SetCase x.states d new e state → waits_on_channel state ≡ true → is_channel_call (instr_of x.parts e) ≡ true
  set_stands new f e state (set_now same q) k = subst (λ n. is_channel_call (instr_of x.parts n) ≡ true) same (f (ap waits_on_channel (sym q) ∙ k))
  set_stands new f e state (set_before other q) k = h e state q k

  -- another context of dispatcher d, which is ready
  context_stands : slice_get x.states d ≡ Some disp.Ready → (new : Context) (e : ℕ) (state : DispState) → slice_get x.states e ≡ Some state → waits_on_channel state ≡ true →
      is_channel_call (bind (slice_get x.parts.code e) (λ code. bind (slice_get (slice_set x.parts.contexts d new) e) (λ (c : Context). bind (slice_get code c.place) decode))) ≡ true
  context_stands r new e state q k = by_same (same_or_not d e)
    where
      by_same : (d ≡ e) ⊎ (d ≡ e → ⊥) → is_channel_call (bind (slice_get x.parts.code e) (λ code. bind (slice_get (slice_set x.parts.contexts d new) e) (λ (c : Context). bind (slice_get code c.place) decode))) ≡ true
      by_same (inl same) =
          let there : slice_get x.states e ≡ Some disp.Ready = subst (λ n. slice_get x.states n ≡ Some disp.Ready) same r in
          let one = same_some (slice_get x.states e) state disp.Ready q there in
          let bad : waits_on_channel disp.Ready ≡ true = ap waits_on_channel (sym one) ∙ k in absurd cc
      by_same (inr other) = ap (λ o. is_channel_call (bind (slice_get x.parts.code e) (λ code. bind o (λ (c : Context). bind (slice_get code c.place) decode)))) (set_other x.parts.contexts d e new other) ∙ h e state q k

keeps_standing : (s : State) → AllReady s → StepKeeps s Stands
keeps_standing s ready d C x y (woken _ w) h = λ e state q k. (let m = map_there (state_after_wake w) x.states e state q in h e m.0 m.1 (waited w m.0 (ap waits_on_channel (sym m.2) ∙ k)))
keeps_standing s ready d C x y (stands_still _ new f) h = λ e state q k. set_stands x h d new (λ g. absurd (still_waits new f g)) e state (set_case x.states d new e state q) k
keeps_standing s ready d C x y (held_up _ w f) h = λ e state q k. set_stands x h d (disp.Waits w) (held_stands x d w f) e state (set_case x.states d (disp.Waits w) e state q) k
keeps_standing s ready d C x y (went _ time code c new memory r f) h = λ e state q k. context_stands x h d (r.ready ready) new e state q k
keeps_standing s ready d C x y (moved_on _ code c r) h = λ e state q k. context_stands x h d (r.ready ready) (at_next_place c) e state q k
keeps_standing s ready d C x y (latch_taken _ code c signal b l r f) h = λ e state q k. context_stands x h d (r.ready ready) (at_next_place (with_reg c b l.value)) e state q k
keeps_standing s ready d C x y st h = h

-- each entry keeps this part; it uses that ready lists are in form
pub standing_kept : (s : State) (chs : List Change) (e : Entry) → WaitersStand s → AllReady s → Kind s chs e → WaitersStand (apply s chs)
standing_kept s chs e h ready k = kept_alone s chs e Stands (keeps_standing s ready) h k
