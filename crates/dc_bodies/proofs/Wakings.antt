-- What the wake of a dispatcher comes to, by what it waits for.
use Rattle.std.proofs.Common.{◌≡◌, ℕ, Bool, true, false, Option, Some, None, refl, ap}
use Rattle.std.specs.Prelude.{slice_get, not, if◌then◌else◌}
use Rattle.dc_base.specs.declared.dispatchers.DispState.{DispState}
use Rattle.dc_base.specs.declared.dispatchers.DispState.TheVariants as disp
use Rattle.dc_base.specs.declared.dispatchers.Wait.TheVariants as wait
use Rattle.dc_base.specs.declared.entries.Reason.TheVariants as reason
use Rattle.dc_base.specs.Channels.{Ring, is_full}
use Rattle.dc_base.specs.States.{State, Core, Block}
use Rattle.dc_base.specs.Turns.{Outcome, not_enabled, outcome}
use Rattle.dc_base.specs.Wakes.{after_wake, wake_sender, wake_receiver, wake_waiting}
use Rattle.dc_bodies.specs.declared.wakes.ChannelWait.{ChannelWait}
use Rattle.dc_bodies.specs.declared.wakes.ChannelWait.TheVariants as channel
use Rattle.dc_bodies.specs.Waits.{channel_wait, channel_of, goes_on}

-- what the wake of a dispatcher that waits so comes to, with the channel
abbrev pub woken : ℕ → Core → ℕ → ℕ → Block → ChannelWait → Option Ring → Outcome
woken c k b d x (channel.Sends y) r = wake_sender c k b d x r
woken c k b d x (channel.Receives y) r = wake_receiver c k b d x r

module _ (s : State) (c : ℕ) (k : Core) (b d : ℕ) (x : Block) where
  pub not_waiting : (o : Option DispState) → channel_wait o ≡ None → outcome s (wake_waiting c k b d x o) ≡ not_enabled reason.NotWaiting
  not_waiting None e = refl
  not_waiting (Some disp.Ready) e = refl
  not_waiting (Some disp.Halted) e = refl
  not_waiting (Some (disp.Trapped t)) e = refl
  not_waiting (Some (disp.Waits (wait.Send p))) e = refl
  not_waiting (Some (disp.Waits (wait.Recv p))) e = refl
  not_waiting (Some (disp.Waits (wait.Signal i))) e = refl
  not_waiting (Some (disp.Waits (wait.Csend y))) e = absurd cc
  not_waiting (Some (disp.Waits (wait.Crecv y))) e = absurd cc

  pub waiting : (o : Option DispState) (w : ChannelWait) → channel_wait o ≡ Some w → outcome s (wake_waiting c k b d x o) ≡ woken c k b d x w (slice_get s.channels (channel_of w).0)
  waiting None w e = absurd cc
  waiting (Some disp.Ready) w e = absurd cc
  waiting (Some disp.Halted) w e = absurd cc
  waiting (Some (disp.Trapped t)) w e = absurd cc
  waiting (Some (disp.Waits (wait.Send p))) w e = absurd cc
  waiting (Some (disp.Waits (wait.Recv p))) w e = absurd cc
  waiting (Some (disp.Waits (wait.Signal i))) w e = absurd cc
  waiting (Some (disp.Waits (wait.Csend y))) w e = ap (λ v. woken c k b d x v (slice_get s.channels (channel_of v).0)) (let q : channel.Sends y ≡ w = cc in q)
  waiting (Some (disp.Waits (wait.Crecv y))) w e = ap (λ v. woken c k b d x v (slice_get s.channels (channel_of v).0)) (let q : channel.Receives y ≡ w = cc in q)

  sends_by : (t : Bool) → not t ≡ false → (if t then not_enabled reason.StillWaits else after_wake c k b d x) ≡ not_enabled reason.StillWaits
  sends_by true e = refl
  sends_by false e = absurd cc

  sends_on : (t : Bool) → not t ≡ true → (if t then not_enabled reason.StillWaits else after_wake c k b d x) ≡ after_wake c k b d x
  sends_on true e = absurd cc
  sends_on false e = refl

  pub still_waits : (w : ChannelWait) (r : Ring) → goes_on w r ≡ false → woken c k b d x w (Some r) ≡ not_enabled reason.StillWaits
  still_waits (channel.Sends y) r e = sends_by (is_full r) e
  still_waits (channel.Receives y) r e = ap (λ (t : Bool). if t then after_wake c k b d x else not_enabled reason.StillWaits) e

  pub wakes : (w : ChannelWait) (r : Ring) → goes_on w r ≡ true → woken c k b d x w (Some r) ≡ after_wake c k b d x
  wakes (channel.Sends y) r e = sends_on (is_full r) e
  wakes (channel.Receives y) r e = ap (λ (t : Bool). if t then after_wake c k b d x else not_enabled reason.StillWaits) e
