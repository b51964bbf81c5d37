-- What a core's action looks at.
use Rattle.std.proofs.Common.{◌≡◌, ℕ, Bool, true, false, [], ◌∷◌, ◌++◌, Option, Some, None, refl, ap, ◌∙◌, map}
use Rattle.std.specs.Prelude.{slice_get, is_some, ◌==◌, if◌then◌else◌, find}
use Rattle.std.specs.Option.{option_map}
use Rattle.dc_base.specs.declared.actions.Action.{Action}
use Rattle.dc_base.specs.declared.actions.Actor.TheVariants as actor
use Rattle.dc_base.specs.declared.calls.Need.{Need}
use Rattle.dc_base.specs.declared.calls.Need.TheVariants as needs
use Rattle.dc_base.specs.declared.dispatchers.DispState.{DispState}
use Rattle.dc_base.specs.declared.dispatchers.DispState.TheVariants as disp
use Rattle.dc_base.specs.declared.dispatchers.Wait.TheVariants as wait
use Rattle.dc_base.specs.declared.entries.Reason.TheVariants as reason
use Rattle.dc_base.specs.declared.kernels.Version.{Version}
use Rattle.dc_base.specs.declared.numbers.CoreNo.{CoreNo}
use Rattle.dc_base.specs.Changes.{a_core, a_block, a_channel, a_line}
use Rattle.dc_base.specs.CoreTouches.{needed}
use Rattle.dc_base.specs.Cores.{core_action, core_turn, turn_of}
use Rattle.dc_base.specs.Firing.{Fired, fire_all}
use Rattle.dc_base.specs.Intakes.{intake_line, intake_outcome, intake_pending, intake_turn}
use Rattle.dc_base.specs.Lines.{Wire}
use Rattle.dc_base.specs.NeededLooks.{look_outside}
use Rattle.dc_base.specs.NeedsHere.{need_here}
use Rattle.dc_base.specs.Outcomes.{has, if_here, if_on, share_blocks}
use Rattle.dc_base.specs.Placed.{IsOn}
use Rattle.dc_base.specs.Policies.{pick}
use Rattle.dc_base.specs.Serving.{Outside}
use Rattle.dc_base.specs.Slices.{Halfway, halfway, without_ready}
use Rattle.dc_base.specs.SliceTurns.{finish_slice, slice_from, slice_picked, slice_turn}
use Rattle.dc_base.specs.States.{State, Core, Block, Whereabouts, rest, on, time_on}
use Rattle.dc_base.specs.Steps.{is_runnable, step_on, step_turn}
use Rattle.dc_base.specs.Turns.{Turn, Outcome, ends, spent, not_enabled, look_block, look_blocks, looks}
use Rattle.dc_base.specs.Wakes.{wake_in, wake_turn, wake_waiting}
use Rattle.dc_base.specs.Words.{bind, is_number}
use Rattle.dc_block_sound.proofs.Elements.{same_is}
use Rattle.dc_kernel.specs.Begins.{halfway_in, need_in}
use Rattle.dc_objects.specs.Blocks.{running_of}
use Rattle.dc_bodies.proofs.WakeTurns.{tested}
use Rattle.dc_bodies.specs.declared.intakes.Pending.{Pending}
use Rattle.dc_bodies.specs.declared.stops.Stepped.TheVariants as stepped
use Rattle.dc_bodies.specs.declared.wakes.ChannelWait.{ChannelWait}
use Rattle.dc_bodies.specs.declared.wakes.ChannelWait.TheVariants as channel
use Rattle.dc_bodies.specs.InHand.{looked_in}
use Rattle.dc_bodies.specs.Nexts.{first_runnable}
use Rattle.dc_bodies.specs.Pendings.{IsPending}
use Rattle.dc_bodies.specs.Stops.{stopped, stopped_at}
use Rattle.dc_bodies.specs.Waits.{channel_of, channel_wait}

module _ (s : State) where
  -- a core that is there is looked at first
  pub core_looks : (c : CoreNo) (a : Action) (k : Core) → slice_get s.cores c.0 ≡ Some k → looks s (turn_of (λ t. 0) (actor.Core c) a) ≡ a_core c.0 ∷ looks s (core_action c.0 k a)
  unfolding turn_of
  core_looks c a k at = ap (λ o. a_core c.0 ∷ looks s (core_turn c.0 a o)) at

  looks_by : (u : Bool) (v : Option Version) (t : Turn) → (if u then Some stepped.Spent else stopped_at v) ≡ None → looks s (if u then ends spent else if_on v t) ≡ looks s t
  looks_by true v t e = absurd cc
  looks_by false None t e = absurd cc
  looks_by false (Some v) t e = refl

  looks_tested : (k : Core) (t : Turn) → stopped k ≡ None → looks s (tested k t) ≡ looks s t
  looks_tested k t e = looks_by (k.used == k.settings.slices) k.version t e

  looks_on : (v : Option Version) (t : Turn) → is_some v ≡ true → looks s (if_on v t) ≡ looks s t
  looks_on None t e = absurd cc
  looks_on (Some v) t e = refl

  -- a step looks at the blocks of the share
  pub step_looks : (c : ℕ) (k : Core) → stopped k ≡ None →
      looks s (step_turn c k) ≡ map a_block (share_blocks k.share) ++ looks s (step_on c k (looked_in (slice_get s.blocks) k.share) (first_runnable k (looked_in (slice_get s.blocks) k.share)))
  step_looks c k e = looks_tested k (look_blocks (share_blocks k.share) (λ share. step_on c k share (find (is_runnable k.clock) share))) e

  outside_looks : (b : ℕ) (n : Need) (f : Outside → Outcome) → looks s (look_outside b n (λ out. ends (f out))) ≡ needed b n
  unfolding look_outside
  outside_looks b needs.Nothing f = refl
  outside_looks b needs.Console f = refl
  outside_looks b (needs.Channel x) f = refl
  outside_looks b (needs.Line l) f = refl

  module _ (c : ℕ) (k : Core) (b : ℕ) where
    half_looks : (x : Block) (v : Version) (d count : ℕ) (o : Option Halfway) → looks s (finish_slice c k b x v d count o) ≡ needed b (need_here k.settings (need_in o))
    half_looks x v d count None = refl
    half_looks x v d count (Some h) = outside_looks b _ _

    picked_looks : (x : Block) (time : ℕ) (v : Version) (f : Fired) (o : Option ℕ) →
        looks s (slice_picked c k b x time v f o) ≡ needed b (need_here k.settings (need_in (bind o (λ d. halfway k.settings.quantum time (without_ready d f.control) d))))
    picked_looks x time v f None = refl
    picked_looks x time v f (Some d) = half_looks x v d f.count (halfway k.settings.quantum time (without_ready d f.control) d)

    from_looks : (x : Block) (w : Whereabouts) → IsOn c w →
        looks s (slice_from c k b (record x { whereabouts = w }) w) ≡ needed b (need_here k.settings (need_in (halfway_in k.settings.quantum k.clock (running_of (record x { whereabouts = w })))))
    from_looks x (rest kept) h = absurd h
    from_looks x (on d offset v) h =
        let fired : Fired = fire_all (time_on k.clock offset) x.control in
        picked_looks (record x { whereabouts = on d offset v }) (time_on k.clock offset) v fired (pick v fired.control.dues fired.control.ready)

    -- a slice looks at the object that its call needs
    pub slice_looks : (x : Block) → IsOn c x.whereabouts →
        looks s (slice_turn c k b (Some x)) ≡ needed b (need_here k.settings (need_in (halfway_in k.settings.quantum k.clock (running_of x))))
    unfolding slice_turn
    slice_looks x h = from_looks x x.whereabouts h

  module _ (c : ℕ) (k : Core) (b d : ℕ) where
    waiting_looks : (x : Block) (o : Option DispState) (w : ChannelWait) → channel_wait o ≡ Some w → looks s (wake_waiting c k b d x o) ≡ a_channel (channel_of w).0 ∷ []
    waiting_looks x None w e = absurd cc
    waiting_looks x (Some disp.Ready) w e = absurd cc
    waiting_looks x (Some disp.Halted) w e = absurd cc
    waiting_looks x (Some (disp.Trapped t)) w e = absurd cc
    waiting_looks x (Some (disp.Waits (wait.Send p))) w e = absurd cc
    waiting_looks x (Some (disp.Waits (wait.Recv p))) w e = absurd cc
    waiting_looks x (Some (disp.Waits (wait.Signal i))) w e = absurd cc
    waiting_looks x (Some (disp.Waits (wait.Csend y))) w e = ap (λ v. a_channel (channel_of v).0 ∷ []) (let q : channel.Sends y ≡ w = cc in q)
    waiting_looks x (Some (disp.Waits (wait.Crecv y))) w e = ap (λ v. a_channel (channel_of v).0 ∷ []) (let q : channel.Receives y ≡ w = cc in q)

    -- a wake looks at the block, and at the channel on which the dispatcher waits
    pub wake_looks : (x : Block) (w : ChannelWait) → stopped k ≡ None → has k.share b ≡ true → slice_get s.blocks b ≡ Some x → channel_wait (slice_get x.control.states d) ≡ Some w →
        looks s (wake_turn c k b d) ≡ a_block b ∷ a_channel (channel_of w).0 ∷ []
    wake_looks x w e listed there waits =
        looks_tested k (if_here k.share b (look_block b (wake_in c k b d))) e
        ∙ ap (λ (t : Bool). looks s (if t then look_block b (wake_in c k b d) else ends (not_enabled (reason.NotHere (record { 0 = b }))))) listed
        ∙ ap (λ o. a_block b ∷ looks s (wake_in c k b d o)) there
        ∙ ap (λ ns. a_block b ∷ ns) (waiting_looks x (slice_get x.control.states d) w waits)

  module _ (c : ℕ) (k : Core) (l : ℕ) where
    -- an intake looks at the line
    pub intake_looks : is_some k.version ≡ true → looks s (intake_turn c k l) ≡ a_line l ∷ looks s (intake_line c k l (slice_get s.lines l))
    intake_looks e = looks_on k.version _ e

    -- and at the block to which its pending raise comes
    pub pending_looks : (w : Wire) (p : Pending) → IsPending c k w p → slice_get s.lines l ≡ Some w → looks s (intake_line c k l (slice_get s.lines l)) ≡ a_block p.block.0 ∷ []
    pending_looks w p h there =
        ap (λ o. looks s (intake_line c k l o)) there
        ∙ ap (λ o. looks s (intake_pending c k l w o w.pending)) h.bound
        ∙ ap (λ o. looks s (intake_pending c k l w (Some (p.block.0, p.signal.0)) o)) h.number
        ∙ ap (λ o. looks s (if is_number c o then if_here k.share p.block.0 goes else ends (not_enabled (reason.NotRouted (option_map (λ r. record { 0 = r }) w.route))))) h.route
        ∙ ap (λ (t : Bool). looks s (if t then if_here k.share p.block.0 goes else ends (not_enabled (reason.NotRouted (option_map (λ r. record { 0 = r }) w.route))))) (same_is c)
        ∙ ap (λ (t : Bool). looks s (if t then goes else ends (not_enabled (reason.NotHere (record { 0 = p.block.0 }))))) h.here
      where
        goes : Turn
        goes = look_block p.block.0 (λ o. ends (intake_outcome c l w p.number p.block.0 p.signal.0 o))
