-- What every control block keeps by itself, each kind of entry keeps.
use Rattle.std.proofs.Common.{◌≡◌, ℕ, ◌<◌, ◌≤◌, List, [], Option, Some, refl, sym, subst, length}
use Rattle.std.specs.Prelude.{slice_get, replicate}
use Rattle.std.proofs.lemmas.List.{length-replicate}
use Rattle.std.proofs.lemmas.Option.{slice_get_within}
use Rattle.dc_base.specs.declared.dispatchers.DispState.TheVariants as disp
use Rattle.dc_base.specs.declared.dispatchers.Wait.{Wait}
use Rattle.dc_base.specs.declared.dispatchers.Wait.TheVariants as wait
use Rattle.dc_base.specs.declared.images.BlockImage.{BlockImage}
use Rattle.dc_base.specs.declared.images.Image.{Image}
use Rattle.dc_base.specs.declared.interrupts.Latch.{Latch}
use Rattle.dc_base.specs.declared.kernels.Version.{Version}
use Rattle.dc_base.specs.Ahead.{ahead}
use Rattle.dc_base.specs.Channels.{Ring}
use Rattle.dc_base.specs.ControlBlocks.{ControlBlock, control_start}
use Rattle.dc_base.specs.Effects.{Context}
use Rattle.dc_base.specs.Firing.{wake, latch_in, fire_all}
use Rattle.dc_base.specs.KeptByBlocks.{HasShape, HasDispatchers, HasPorts, HasReady, HasTimers, HasCaps}
use Rattle.dc_base.specs.Policies.{pick}
use Rattle.dc_base.specs.Ports.{signals_after}
use Rattle.dc_base.specs.Serving.{Outside}
use Rattle.dc_base.specs.Slices.{Halfway, halfway, need_of, slice_end, with_ahead, without_ready}
use Rattle.dc_base.specs.States.{State, idle_wire}
use Rattle.dc_base.specs.Valid.{IsValidBlock}
use Rattle.dc_base.specs.Wakes.{ready_again}
use Rattle.dc_block_sound.specs.SoundControls.{NamesWithin, IsSoundControl, IsSoundBesideReady, Suits}
use Rattle.dc_block_sound.proofs.Beside.{state_of, nowhere, beside, found_beside, offers_nowhere, offers_beside}
use Rattle.dc_block_sound.proofs.CapForms.{OffersWithin, keeps_caps}
use Rattle.dc_block_sound.proofs.ControlSteps.{readied, Steps, further, joined, kept_along, kept_by, with_parts}
use Rattle.dc_block_sound.proofs.OutsideAt.{outside_at}
use Rattle.dc_block_sound.proofs.Forms.{SameShape, length_signals, keeps_shape, keeps_dispatchers, keeps_ports, keeps_timers}
use Rattle.dc_block_sound.proofs.OwnNames.{own_now, keeps_own, names_own}
use Rattle.dc_block_sound.proofs.Ready.{wake_owes, fire_owes, ready_owes, owes_ready, picked_in, without_owes, half_ready, end_ready, again_ready}
use Rattle.dc_block_sound.proofs.StartControls.{start_ready, start_shape, start_dispatchers, start_ports, start_timers, start_caps, start_names}
use Rattle.dc_block_sound.proofs.Walks.{wake_steps, fire_steps, ahead_steps, half_steps, end_steps, again_steps, HalfClaims, is_ready_at}

-- the changes one after another, whatever the ready list
beside_along : (s : State) → OffersWithin s → (d : ℕ) (C : ℕ → Type 0) (x y : ControlBlock) → Steps s d C x y → IsSoundControl x → IsSoundBesideReady y
beside_along s offers d C x y st h = record {
  shape = kept_by s d C HasShape (keeps_shape s d C) x y st h.shape;
  dispatchers = kept_by s d C HasDispatchers (keeps_dispatchers s d C) x y st h.dispatchers;
  ports = kept_by s d C HasPorts (keeps_ports s d C) x y st h.ports;
  timers = kept_by s d C HasTimers (keeps_timers s d C) x y st h.timers;
  caps = kept_along s d C HasShape HasCaps (keeps_shape s d C) (keeps_caps s offers d C) x y st h.shape h.caps;
  names = kept_by s d C NamesWithin (keeps_own s d C) x y st h.names;
}

-- the same where the ready list is known at the end
sound_along : (s : State) → OffersWithin s → (d : ℕ) (C : ℕ → Type 0) (x y : ControlBlock) → Steps s d C x y → HasReady y → IsSoundControl x → IsSoundControl y
sound_along s offers d C x y st ready h =
    let b = beside_along s offers d C x y st h in
    record { shape = b.shape; dispatchers = b.dispatchers; ports = b.ports; ready = ready; timers = b.timers; caps = b.caps; names = b.names }

-- no line is claimed
abbrev no_line : ℕ → Type 0
no_line l = ⊥

fired_ready : (time : ℕ) (x : ControlBlock) → HasReady x → HasReady (fire_all time x).control
fired_ready time x h = owes_ready (fire_all time x).control (fire_owes (λ d. 0) time x (ready_owes x h))

pub firing_sound : (time : ℕ) (x : ControlBlock) → IsSoundControl x → IsSoundControl (fire_all time x).control
firing_sound time x h = sound_along nowhere offers_nowhere 0 no_line x (fire_all time x).control (fire_steps nowhere 0 no_line time x) (fired_ready time x h.ready) h

-- as many signals, whatever they hold
with_signals : (x : ControlBlock) (signals : List (Option Latch)) → length signals ≡ length x.parts.signals → IsSoundControl x → IsSoundControl (with_parts x (record x.parts { signals = signals }))
with_signals x signals e h =
    let y : ControlBlock = with_parts x (record x.parts { signals = signals }) in
    let same : SameShape x y = record { memory = refl; states = refl; code = refl; contexts = refl; dues = refl; periods = refl; ports = refl; signals = e } in
    record {
      shape = record {
        memory = h.shape.memory;
        some = h.shape.some;
        disps = h.shape.disps;
        code = h.shape.code;
        contexts = h.shape.contexts;
        dues = h.shape.dues;
        periods = h.shape.periods;
        ports = h.shape.ports;
        signals = subst (λ n. n ≤ 16) (sym e) h.shape.signals;
      };
      dispatchers = record { code = h.dispatchers.code; regs = h.dispatchers.regs; places = h.dispatchers.places; periods = h.dispatchers.periods; traps = h.dispatchers.traps };
      ports = h.ports;
      ready = h.ready;
      timers = record { ascending = h.timers.ascending; below = h.timers.below; room = h.timers.room };
      caps = record { ascending = h.caps.ascending; slots = h.caps.slots; rights = h.caps.rights; parents = h.caps.parents; roots = h.caps.roots };
      names = own_now x y same h.names.caps h.names.waiters h.names.timers;
    }

woken_sound : (w : Wait) (x : ControlBlock) → IsSoundControl x → IsSoundControl (wake w x)
woken_sound w x h = sound_along nowhere offers_nowhere 0 no_line x (wake w x) (wake_steps nowhere 0 no_line w x) (owes_ready (wake w x) (wake_owes (λ d. 0) w x (ready_owes x h.ready))) h

pub latching_sound : (s : ℕ) (l : Latch) (x : ControlBlock) → IsSoundControl x → IsSoundControl (latch_in s l x)
unfolding latch_in
latching_sound s l x h = woken_sound (wait.Signal (record { 0 = s })) (with_parts x (record x.parts { signals = signals_after s l x.parts.signals })) (with_signals x (signals_after s l x.parts.signals) (length_signals s l x.parts.signals) h)

pub waking_sound : (d : ℕ) (w : Wait) (x : ControlBlock) → slice_get x.states d ≡ Some (disp.Waits w) → IsSoundControl x → IsSoundControl (ready_again d x)
waking_sound d w x e h = sound_along nowhere offers_nowhere d no_line x (ready_again d x) (again_steps nowhere d no_line x) (again_ready x d (disp.Waits w) e refl h.ready) h

-- the dispatcher that is picked

picked_at : (v : Version) (d : ℕ) (x : ControlBlock) → HasReady x → pick v x.dues x.ready ≡ Some d → slice_get x.states d ≡ Some disp.Ready
picked_at v d x h p = is_ready_at (slice_get x.states d) (subst (λ n. 0 < n) (h d) (picked_in v x.dues x.ready d p))

pub picked_sound : (v : Version) (d : ℕ) (x : ControlBlock) → IsSoundControl x → pick v x.dues x.ready ≡ Some d → (slice_get x.states d ≡ Some disp.Ready) × (d < length x.states)
picked_sound v d x h p = let e = picked_at v d x h.ready p in (e, slice_get_within x.states d disp.Ready e)

-- a whole slice
pub slice_sound : (time quantum c n : ℕ) (v : Version) (d : ℕ) (x : ControlBlock) (h : Halfway) (out : Outside) → IsSoundControl x → pick v (fire_all time x).control.dues (fire_all time x).control.ready ≡ Some d →
    halfway quantum time (without_ready d (fire_all time x).control) d ≡ Some h → Suits (need_of h) out → IsSoundControl (slice_end c n v d h out).control
slice_sound time quantum c n v d x h out sound p q f =
    let s = beside n (need_of h) out in
    let C = HalfClaims s h in
    let y = (fire_all time x).control in
    let z = without_ready d y in
    let fired = fired_ready time x sound.ready in
    let half = half_steps s d C quantum time z h (λ all. picked_at v d y fired p) q in
    let rest = further y z _ (readied y _) (end_steps s d C c n v z h (λ m g. g) half) in
    let all = joined s d C x y (slice_end c n v d h (outside_at s n (need_of h))).control (fire_steps s d C time x) rest in
    let steps = subst (λ o. Steps s d C x (slice_end c n v d h o).control) (found_beside n (need_of h) out f) all in
    let ready = end_ready c n v d h out (half_ready quantum time z d h (without_owes y d fired (picked_in v y.dues y.ready d p)) q) in
    sound_along s (offers_beside n (need_of h) out f) d C x (slice_end c n v d h out).control steps ready sound

-- the plain part of a slice
pub ahead_sound : (time quantum : ℕ) (v : Version) (d : ℕ) (x : ControlBlock) (code : List ℕ) (c : Context) → IsSoundControl x → pick v (fire_all time x).control.dues (fire_all time x).control.ready ≡ Some d →
    slice_get (fire_all time x).control.parts.code d ≡ Some code → slice_get (fire_all time x).control.parts.contexts d ≡ Some c →
    IsSoundBesideReady (with_ahead (without_ready d (fire_all time x).control) d (ahead time code quantum c (fire_all time x).control.parts.memory))
ahead_sound time quantum v d x code c sound p q r =
    let s = nowhere in
    let y = (fire_all time x).control in
    let z = without_ready d y in
    let fired = fired_ready time x sound.ready in
    let fits = ahead_steps s d no_line time quantum code z c (record { ready = λ all. picked_at v d y fired p; code_at = q; context_at = r }) in
    beside_along s offers_nowhere d no_line x _ (joined s d no_line x y _ (fire_steps s d no_line time x) (further y z _ (readied y _) fits.0)) sound

-- the start

pub start_sound_control : (image : Image) (b : ℕ) (x : BlockImage) → IsValidBlock image b x → IsSoundControl (control_start x)
start_sound_control image b x v =
    let ring : Ring = record { capacity = 0; untaken = []; sent = 0; taken = 0 } in
    let s = state_of [] (replicate (length image.channels) ring) (replicate image.lines idle_wire) in
    record {
      shape = start_shape image b x v;
      dispatchers = start_dispatchers image b x v;
      ports = start_ports image b x v;
      ready = start_ready x;
      timers = start_timers image b x v;
      caps = start_caps image b x v;
      names = names_own s (control_start x) (start_names image b x v s (length-replicate (length image.channels) ring) (length-replicate image.lines idle_wire));
    }
