-- A core makes an entry that is in range: beside steps, wakes, intakes and orders.
use Rattle.std.proofs.Common.{◌≡◌, ℕ, ◌^◌, ◌<◌, ◌≤◌, Bool, true, [], ◌∷◌, Option, Some, None, refl, ap, sym, subst, ◌∙◌, arith, length}
use Rattle.std.specs.Prelude.{IfSome, slice_get, nat_lt, ◌==◌}
use Rattle.std.specs.Option.{option_map}
use Rattle.std.proofs.lemmas.Bool.{and_from}
use Rattle.std.proofs.lemmas.Bool.Decides.{nat_tests}
use Rattle.std.proofs.lemmas.Option.{slice_get_within}
use Rattle.dc_base.specs.declared.actions.Action.{Action}
use Rattle.dc_base.specs.declared.actions.Action.TheVariants as action
use Rattle.dc_base.specs.declared.commands.Order.{Order}
use Rattle.dc_base.specs.declared.commands.Order.TheVariants as orders
use Rattle.dc_base.specs.declared.dispatchers.DispState.{DispState}
use Rattle.dc_base.specs.declared.dispatchers.DispState.TheVariants as disp
use Rattle.dc_base.specs.declared.dispatchers.Wait.TheVariants as wait
use Rattle.dc_base.specs.declared.kernels.Clocks.{Clocks}
use Rattle.dc_base.specs.declared.kernels.Clocks.TheVariants as clocks
use Rattle.dc_base.specs.declared.kernels.Version.{Version}
use Rattle.dc_base.specs.declared.numbers.BlockNo.{BlockNo}
use Rattle.dc_base.specs.declared.entries.What.TheVariants as what
use Rattle.dc_base.specs.declared.entries.Reason.TheVariants as reason
use Rattle.dc_base.specs.Channels.{Ring, is_full}
use Rattle.dc_base.specs.Cores.{core_action, core_turn}
use Rattle.dc_base.specs.Intakes.{intake_outcome, intake_pending, intake_line}
use Rattle.dc_base.specs.Lines.{Wire}
use Rattle.dc_base.specs.Orders.{adopted_time, adopt_outcome, release_outcome, carry_out, order_turn}
use Rattle.dc_base.specs.Outcomes.{has, if_on, if_here}
use Rattle.dc_base.specs.Placed.{IsOn}
use Rattle.dc_base.specs.Ports.{how_latched, latch_at}
use Rattle.dc_base.specs.Progress.{IsRest, IsAtRest, Fits}
use Rattle.dc_base.specs.Sound.{IsSound}
use Rattle.dc_base.specs.States.{State, Core, Block, Mailbox, order, Whereabouts, rest, on, time_on, time_at, time_of, clock_of}
use Rattle.dc_base.specs.Turns.{not_enabled, spent, Turn, ends, look_block, look_line}
use Rattle.dc_base.specs.Wakes.{after_wake, wake_sender, wake_receiver, wake_waiting, wake_in, wake_turn}
use Rattle.dc_base.specs.Words.{is_number}
use Rattle.dc_block_sound.proofs.Elements.{same_some}
use Rattle.dc_sound.proofs.Times.{clock_of-at}
use Rattle.dc_ranges.proofs.Bounds.{core_small, block_small, line_small, dispatcher_small, share_small, raised_small, clock_small, time_small}
use Rattle.dc_ranges.proofs.Shown.{Shows, Comes, small, timed, core_shown, by_if, by_version, by_outcome}
use Rattle.dc_ranges.proofs.StepEntries.{step_comes}

-- the later of two times, or the kept one
adopted_low : (how : Clocks) (kept clock : ℕ) → kept < 2 ^ 64 → clock < 2 ^ 64 → adopted_time how kept clock < 2 ^ 64
adopted_low clocks.Kept kept clock h g = h
adopted_low clocks.Running kept clock h g = grind (arith, nat_tests)

module _ (s : State) (p : IsSound s) (c : ℕ) (k : Core) (core_at : slice_get s.cores c ≡ Some k) where
  near : c < 2 ^ 32
  near = core_small s p c k core_at

  clock_low : k.clock < 2 ^ 64
  clock_low = let low = clock_small s p c k 0 core_at (omega arith) in omega (arith, low)

  if_here_comes : (b : ℕ) (t : Turn) → (has k.share b ≡ true → Comes s t) → Comes s (if_here k.share b t)
  if_here_comes b t f = by_if s (has k.share b) t (ends (not_enabled (reason.NotHere (record { 0 = b })))) f (λ away. tt)

  -- a wake

  woken_shown : (b d : ℕ) (x : Block) (state : DispState) → slice_get s.blocks b ≡ Some x → slice_get x.control.states d ≡ Some state → Shows (after_wake c k b d x)
  woken_shown b d x state at waits =
      core_shown c (what.Wake (record { 0 = b }) (record { 0 = d })) near refl
      (small (b ∷ d ∷ []) (block_small s p b x at, (dispatcher_small s p b x d at (slice_get_within x.control.states d state waits), tt)))

  sender_comes : (b d : ℕ) (x : Block) → Shows (after_wake c k b d x) → (o : Option Ring) → Shows (wake_sender c k b d x o)
  sender_comes b d x shown None = tt
  sender_comes b d x shown (Some r) = by_outcome (is_full r) (not_enabled reason.StillWaits) (after_wake c k b d x) tt shown

  receiver_comes : (b d : ℕ) (x : Block) → Shows (after_wake c k b d x) → (o : Option Ring) → Shows (wake_receiver c k b d x o)
  receiver_comes b d x shown None = tt
  receiver_comes b d x shown (Some r) = by_outcome (nat_lt 0 (length r.untaken)) (after_wake c k b d x) (not_enabled reason.StillWaits) shown tt

  waiting_comes : (b d : ℕ) (x : Block) → slice_get s.blocks b ≡ Some x → (o : Option DispState) → slice_get x.control.states d ≡ o → Comes s (wake_waiting c k b d x o)
  waiting_comes b d x at (Some (disp.Waits (wait.Csend y))) waits = sender_comes b d x (woken_shown b d x _ at waits) (slice_get s.channels y.0)
  waiting_comes b d x at (Some (disp.Waits (wait.Crecv y))) waits = receiver_comes b d x (woken_shown b d x _ at waits) (slice_get s.channels y.0)
  waiting_comes b d x at o waits = tt

  wake_in_comes : (b d : ℕ) (o : Option Block) → slice_get s.blocks b ≡ o → Comes s (wake_in c k b d o)
  wake_in_comes b d None at = tt
  wake_in_comes b d (Some x) at = waiting_comes b d x at (slice_get x.control.states d) refl

  wake_comes : (b d : ℕ) → Comes s (wake_turn c k b d)
  wake_comes b d =
      let looks = look_block b (wake_in c k b d) in
      by_if s (k.used == k.settings.slices) (ends spent) (if_on k.version (if_here k.share b looks)) (λ spends. tt) (λ unspent.
      by_version s k.version (if_here k.share b looks) (λ is_on. if_here_comes b looks (λ here. wake_in_comes b d (slice_get s.blocks b) refl)))

  -- an intake

  module _ (l : ℕ) (w : Wire) (line_at : slice_get s.lines l ≡ Some w) where
    pending_small : (n : ℕ) → w.pending ≡ Some n → n < 2 ^ 32
    pending_small n at =
        let most : n ≤ w.counts.raised = subst (λ o. IfSome o (λ m. m ≤ w.counts.raised)) at (p.lines.pending l w line_at) in
        let low = raised_small s p l w line_at in
        omega (arith, most, low)

    signal_small : (to : ℕ × ℕ) → w.bound ≡ Some to → to.1 < 2 ^ 32
    signal_small to at =
        let bound : (x : Block) × (slice_get s.blocks to.0 ≡ Some x) × (to.1 < length x.control.parts.signals) =
        subst (λ o. IfSome o (λ (t : ℕ × ℕ). (x : Block) × (slice_get s.blocks t.0 ≡ Some x) × (t.1 < length x.control.parts.signals))) at (p.named.wires l w line_at).bound in
        let within = bound.2 in
        let most = (p.shapes to.0 bound.0 bound.1).signals in
        omega (arith, within, most)

    intake_comes : (to : ℕ × ℕ) (n : ℕ) → w.bound ≡ Some to → w.pending ≡ Some n → (o : Option Block) → slice_get s.blocks to.0 ≡ o → Shows (intake_outcome c l w n to.0 to.1 o)
    intake_comes to n bound pending None at = tt
    intake_comes to n bound pending (Some x) at =
        core_shown c (what.Intake (record { 0 = l }) n (record { 0 = to.0 }) (record { 0 = to.1 }) (how_latched (latch_at x.control.parts.signals to.1))) near refl
        (small (l ∷ n ∷ to.0 ∷ to.1 ∷ []) (line_small s p l w line_at, (pending_small n pending, (block_small s p to.0 x at, (signal_small to bound, tt)))))

    pending_comes : (o : Option (ℕ × ℕ)) (n : Option ℕ) → w.bound ≡ o → w.pending ≡ n → Comes s (intake_pending c k l w o n)
    pending_comes None n bound pending = tt
    pending_comes (Some to) None bound pending = tt
    pending_comes (Some to) (Some n) bound pending =
        let looks = look_block to.0 (λ o. ends (intake_outcome c l w n to.0 to.1 o)) in
        by_if s (is_number c w.route) (if_here k.share to.0 looks) (ends (not_enabled (reason.NotRouted (option_map (λ r. record { 0 = r }) w.route))))
        (λ routed. if_here_comes to.0 looks (λ here. intake_comes to n bound pending (slice_get s.blocks to.0) refl)) (λ elsewhere. tt)

  line_comes : (l : ℕ) (o : Option Wire) → slice_get s.lines l ≡ o → Comes s (intake_line c k l o)
  line_comes l None at = tt
  line_comes l (Some w) at = pending_comes l w at w.bound w.pending refl refl

  -- an order

  rest_time : (w : Whereabouts) → IsRest w → time_at k.clock w ≡ time_of s.cores w
  rest_time (rest kept) still = refl
  rest_time (on d offset v) still = absurd still

  own_time : (w : Whereabouts) → IsOn c w → time_at k.clock w ≡ time_of s.cores w
  own_time (rest kept) own = absurd own
  own_time (on d offset v) own = ap (λ n. time_on n offset) (sym (ap (clock_of s.cores) own ∙ clock_of-at s.cores c k core_at))

  adopt_comes : (b : BlockNo) (parked : Bool) → Fits s k (orders.Adopt b parked) → (v : Option Version) (o : Option Block) → slice_get s.blocks b.0 ≡ o → Shows (adopt_outcome c k b.0 parked v o)
  adopt_comes b parked fits None None at = tt
  adopt_comes b parked fits None (Some x) at = tt
  adopt_comes b parked fits (Some v) None at = tt
  adopt_comes b parked fits (Some v) (Some x) at =
      let same = rest_time x.whereabouts (subst IsAtRest at fits.1) in
      let low = time_small s p b.0 x at in
      let kept : time_at k.clock x.whereabouts < 2 ^ 64 = omega (arith, same, low) in
      let time = adopted_time k.settings.clocks (time_at k.clock x.whereabouts) k.clock in
      core_shown c (what.Adopt b parked time) near refl
      (and_from _ _ (small (b.0 ∷ []) (block_small s p b.0 x at, tt)) (timed time (adopted_low k.settings.clocks (time_at k.clock x.whereabouts) k.clock kept clock_low)))

  release_comes : (b : BlockNo) → Fits s k (orders.Release b) → (o : Option Block) → slice_get s.blocks b.0 ≡ o → Shows (release_outcome c k b.0 o)
  release_comes b fits None at = tt
  release_comes b fits (Some x) at =
      let listed = p.placed.only c k core_at b.0 fits.1 in
      let own = subst (λ (y : Block). IsOn c y.whereabouts) (same_some (slice_get s.blocks b.0) listed.0 x listed.1 at) listed.2 in
      let same = own_time x.whereabouts own in
      let low = time_small s p b.0 x at in
      core_shown c (what.Release b (time_at k.clock x.whereabouts)) near refl
      (and_from _ _ (small (b.0 ∷ []) (block_small s p b.0 x at, tt)) (timed (time_at k.clock x.whereabouts) (omega (arith, same, low))))

  carried_comes : (o : Order) → Fits s k o → Comes s (carry_out c k o)
  unfolding carry_out
  carried_comes (orders.Start v) fits = core_shown c (what.Start v k.clock) near refl (timed k.clock clock_low)
  carried_comes orders.Stop fits = core_shown c (what.Stop (length k.share)) near refl (small (length k.share ∷ []) (share_small s p c k core_at, tt))
  carried_comes (orders.Replace v) fits = core_shown c (what.Replace v) near refl refl
  carried_comes (orders.Adopt b parked) fits = adopt_comes b parked fits k.version (slice_get s.blocks b.0) refl
  carried_comes (orders.Release b) fits = release_comes b fits (slice_get s.blocks b.0) refl

  order_comes : (o : Option Mailbox) → slice_get s.mailboxes c ≡ o → Comes s (order_turn c k o)
  order_comes (Some (order o)) at = carried_comes o (p.posts c o k at core_at)
  order_comes o at = tt

  action_comes : (a : Action) → Comes s (core_action c k a)
  action_comes action.Step = step_comes s p c k core_at
  action_comes action.Order = order_comes (slice_get s.mailboxes c) refl
  action_comes (action.Intake l) = by_version s k.version (look_line l.0 (intake_line c k l.0)) (λ is_on. line_comes l.0 (slice_get s.lines l.0) refl)
  action_comes (action.Wake b d) = wake_comes b.0 d.0
  action_comes action.Script = tt
  action_comes action.Raise = tt

pub core_comes : (s : State) → IsSound s → (c : ℕ) (a : Action) (o : Option Core) → slice_get s.cores c ≡ o → Comes s (core_turn c a o)
core_comes s p c a None at = tt
core_comes s p c a (Some k) at = action_comes s p c k at a
