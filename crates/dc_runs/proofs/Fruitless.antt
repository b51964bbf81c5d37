-- What a core can still do that tried all that it could do, in vain.
use Rattle.std.proofs.Common.{◌≡◌, ℕ, ◌<◌, ◌==◌, Bool, true, false, true≢false, Option, Some, None, if◌then◌else◌, length, refl, sym, ◌∙◌, subst}
use Rattle.std.specs.Prelude.{slice_get}
use Rattle.std.proofs.lemmas.Option.{slice_get_within}
use Rattle.dc_base.specs.declared.actions.Action.{Action}
use Rattle.dc_base.specs.declared.actions.Action.TheVariants as action
use Rattle.dc_base.specs.declared.dispatchers.DispState.{DispState}
use Rattle.dc_base.specs.declared.dispatchers.DispState.TheVariants as disp
use Rattle.dc_base.specs.declared.dispatchers.Wait.TheVariants as wait
use Rattle.dc_base.specs.declared.entries.Reason.{Reason}
use Rattle.dc_base.specs.declared.entries.Reason.TheVariants as reason
use Rattle.dc_base.specs.declared.kernels.Version.{Version}
use Rattle.dc_base.specs.declared.numbers.CoreNo.{CoreNo}
use Rattle.dc_base.specs.Named.{waits_on_channel}
use Rattle.dc_base.specs.Lines.{Wire}
use Rattle.dc_base.specs.States.{State, Core, Block}
use Rattle.dc_base.specs.Turns.{not_enabled, spent, Turn, ends, look_block, look_line, outcome}
use Rattle.dc_base.specs.Outcomes.{has, if_on, if_here}
use Rattle.dc_base.specs.Wakes.{wake_waiting, wake_in, wake_turn}
use Rattle.dc_base.specs.Intakes.{intake_line}
use Rattle.dc_base.specs.Cores.{core_action, core_turn, turn_of, core_step}
use Rattle.dc_base.specs.PlayText.{IsFruitless, AreCoresAtRest}
use Rattle.dc_runs.specs.Tries.{IsInVain, AreWakesInVain, IsTriedOut}
use Rattle.dc_runs.proofs.Shares.{member_of}

module _ (s : State) where
  -- a turn that makes no entry
  abbrev EndsInVain : Turn → Type 0
  EndsInVain t = IsFruitless (outcome s t)

  if_in_vain : (f : Bool) (t u : Turn) → EndsInVain t → EndsInVain u → EndsInVain (if f then t else u)
  if_in_vain true t u h k = h
  if_in_vain false t u h k = k

  on_in_vain : (v : Option Version) (t : Turn) → EndsInVain t → EndsInVain (if_on v t)
  on_in_vain None t h = tt
  on_in_vain (Some v) t h = h

  where_in_vain : (f : Bool) (t : Turn) (why : Reason) → (f ≡ true → EndsInVain t) → EndsInVain (if f then t else ends (not_enabled why))
  where_in_vain true t why h = h refl
  where_in_vain false t why h = tt

  -- a wake comes to nothing where it does for a block that the core has
  wake_in_vain : (c : ℕ) (k : Core) (b d : ℕ) → (has k.share b ≡ true → EndsInVain (wake_in c k b d (slice_get s.blocks b))) → EndsInVain (wake_turn c k b d)
  wake_in_vain c k b d h =
      if_in_vain (k.used == k.settings.slices) (ends spent) (if_on k.version (if_here k.share b (look_block b (wake_in c k b d)))) tt
      (on_in_vain k.version (if_here k.share b (look_block b (wake_in c k b d)))
      (where_in_vain (has k.share b) (look_block b (wake_in c k b d)) (reason.NotHere (record { 0 = b })) h))

  not_waiting : (c : ℕ) (k : Core) (b d : ℕ) (x : Block) (state : DispState) → waits_on_channel state ≡ false →
      EndsInVain (wake_waiting c k b d x (Some state))
  not_waiting c k b d x (disp.Waits (wait.Csend y)) h = absurd cc
  not_waiting c k b d x (disp.Waits (wait.Crecv y)) h = absurd cc
  not_waiting c k b d x state h = tt

  module _ (c : ℕ) where
    -- no core, no entry
    no_core : (a : Action) → slice_get s.cores c ≡ None → IsInVain s c a
    unfolding core_step turn_of
    no_core a e = subst (λ o. EndsInVain (core_turn c a o)) (sym e) tt

    module _ (tried : IsTriedOut s c) where
      module _ (k : Core) (core_is : slice_get s.cores c ≡ Some k) where
        by_turn : (a : Action) → EndsInVain (core_action c k a) → IsInVain s c a
        unfolding core_step turn_of
        by_turn a h = subst (λ o. EndsInVain (core_turn c a o)) (sym core_is) h

        -- the intake of a line that is there was tried, and no other line is pending
        intake_tried : (l : ℕ) (o : Option Wire) → slice_get s.lines l ≡ o → IsInVain s c (action.Intake (record { 0 = l }))
        intake_tried l None e =
            by_turn (action.Intake (record { 0 = l }))
            (on_in_vain k.version (look_line l (intake_line c k l)) (subst (λ o. EndsInVain (intake_line c k l o)) (sym e) tt))
        intake_tried l (Some w) e = tried.intakes l (slice_get_within s.lines l w e)

        module _ (b d : ℕ) where
          abbrev IsWakeInVain : Type 0
          IsWakeInVain = IsInVain s c (action.Wake (record { 0 = b }) (record { 0 = d }))

          by_wake : (has k.share b ≡ true → EndsInVain (wake_in c k b d (slice_get s.blocks b))) → IsWakeInVain
          by_wake h = by_turn (action.Wake (record { 0 = b }) (record { 0 = d })) (wake_in_vain c k b d h)

          -- the wake of a dispatcher that waits on a channel was tried, and no other can be woken
          module _ (wakes : AreWakesInVain s c b) where
            by_state : (x : Block) → slice_get s.blocks b ≡ Some x → (o : Option DispState) → slice_get x.control.states d ≡ o →
                EndsInVain (wake_waiting c k b d x o) → IsWakeInVain
            by_state x block_is o e h =
                by_wake (λ here. subst (λ p. EndsInVain (wake_in c k b d p)) (sym block_is) (subst (λ p. EndsInVain (wake_waiting c k b d x p)) (sym e) h))

            state_tried : (x : Block) → slice_get s.blocks b ≡ Some x → (state : DispState) → slice_get x.control.states d ≡ Some state →
                (f : Bool) → waits_on_channel state ≡ f → IsWakeInVain
            state_tried x block_is state e true waits = wakes x block_is d state e waits
            state_tried x block_is state e false waits = by_state x block_is (Some state) e (not_waiting c k b d x state waits)

            dispatcher_tried : (x : Block) → slice_get s.blocks b ≡ Some x → (o : Option DispState) → slice_get x.control.states d ≡ o → IsWakeInVain
            dispatcher_tried x block_is None e = by_state x block_is None e tt
            dispatcher_tried x block_is (Some state) e = state_tried x block_is state e (waits_on_channel state) refl

            block_tried : (o : Option Block) → slice_get s.blocks b ≡ o → IsWakeInVain
            block_tried None e = by_wake (λ here. subst (λ p. EndsInVain (wake_in c k b d p)) (sym e) tt)
            block_tried (Some x) e = dispatcher_tried x e (slice_get x.control.states d) refl

          -- a block that the core does not have cannot be woken by it
          wake_tried : (f : Bool) → has k.share b ≡ f → IsWakeInVain
          wake_tried true h =
              let m = member_of k.share b h in
              block_tried (subst (AreWakesInVain s c) m.block (tried.wakes k core_is m.place m.member m.there)) (slice_get s.blocks b) refl
          wake_tried false h = by_wake (λ here. absurd (true≢false (sym here ∙ h)))

        action_tried : (a : Action) → IsInVain s c a
        action_tried action.Step = tried.step
        action_tried action.Order = tried.order
        action_tried (action.Intake l) = intake_tried l.0 (slice_get s.lines l.0) refl
        action_tried (action.Wake b d) = wake_tried b.0 d.0 (has k.share b.0) refl
        action_tried action.Script = by_turn action.Script tt
        action_tried action.Raise = by_turn action.Raise tt

      by_core : (a : Action) (o : Option Core) → slice_get s.cores c ≡ o → IsInVain s c a
      by_core a None e = no_core a e
      by_core a (Some k) e = action_tried k e a

      -- a core that tried all that it could do can do nothing
      pub core_rests : (a : Action) → IsInVain s c a
      core_rests a = by_core a (slice_get s.cores c) refl

  -- where each core that there is has tried all, no core can do anything
  module _ (tried : (c : ℕ) → c < length s.cores → IsTriedOut s c) where
    any_core : (c : ℕ) (a : Action) (o : Option Core) → slice_get s.cores c ≡ o → IsInVain s c a
    any_core c a None e = no_core c a e
    any_core c a (Some k) e = core_rests c (tried c (slice_get_within s.cores c k e)) a

    pub cores_rest : AreCoresAtRest s
    cores_rest = λ (c : CoreNo) (a : Action). any_core c.0 a (slice_get s.cores c.0) refl
