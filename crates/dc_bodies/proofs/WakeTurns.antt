-- What a core's wake comes to, by what stands.
use Rattle.std.proofs.Common.{◌≡◌, ℕ, [], ◌∷◌, Bool, true, false, Option, Some, None, refl, ap, ◌∙◌}
use Rattle.std.specs.Prelude.{◌==◌, slice_get, if◌then◌else◌}
use Rattle.dc_base.specs.declared.actions.Action.TheVariants as action
use Rattle.dc_base.specs.declared.entries.Entry.{Entry}
use Rattle.dc_base.specs.declared.entries.Reason.TheVariants as reason
use Rattle.dc_base.specs.declared.kernels.Version.{Version}
use Rattle.dc_base.specs.Changes.{core_becomes, block_becomes}
use Rattle.dc_base.specs.Cores.{core_turn, turn_of}
use Rattle.dc_base.specs.Outcomes.{has, if_here, if_on}
use Rattle.dc_base.specs.States.{State, Core, Block}
use Rattle.dc_base.specs.Turns.{Turn, did, ends, look_block, not_enabled, outcome, spent}
use Rattle.dc_base.specs.Wakes.{after_wake, wake_in, wake_turn, wake_waiting}
use Rattle.dc_bodies.specs.declared.stops.Stepped.TheVariants as stepped
use Rattle.dc_bodies.specs.Stops.{stopped, stopped_at}
use Rattle.dc_bodies.specs.Woken.{IsWake}
use Rattle.dc_bodies.proofs.Wakings.{waiting, wakes, woken}

-- what a core does whose budget is tested first
abbrev pub tested : Core → Turn → Turn
tested k t = if k.used == k.settings.slices then ends spent else if_on k.version t

goes_by : (s : State) (u : Bool) (v : Option Version) (t : Turn) → (if u then Some stepped.Spent else stopped_at v) ≡ None → outcome s (if u then ends spent else if_on v t) ≡ outcome s t
goes_by s true v t e = absurd cc
goes_by s false None t e = absurd cc
goes_by s false (Some v) t e = refl

pub goes : (s : State) (k : Core) (t : Turn) → stopped k ≡ None → outcome s (tested k t) ≡ outcome s t
goes s k t e = goes_by s (k.used == k.settings.slices) k.version t e

module _ (s : State) (c : ℕ) (k : Core) (b d : ℕ) (e : stopped k ≡ None) where
  pub not_here : has k.share b ≡ false → outcome s (wake_turn c k b d) ≡ not_enabled (reason.NotHere (record { 0 = b }))
  not_here f = goes s k (if_here k.share b (look_block b (wake_in c k b d))) e
      ∙ ap (λ (t : Bool). outcome s (if t then look_block b (wake_in c k b d) else ends (not_enabled (reason.NotHere (record { 0 = b }))))) f

  pub is_here : (x : Block) → has k.share b ≡ true → slice_get s.blocks b ≡ Some x → outcome s (wake_turn c k b d) ≡ outcome s (wake_waiting c k b d x (slice_get x.control.states d))
  is_here x f q = goes s k (if_here k.share b (look_block b (wake_in c k b d))) e
      ∙ ap (λ (t : Bool). outcome s (if t then look_block b (wake_in c k b d) else ends (not_enabled (reason.NotHere (record { 0 = b }))))) f
      ∙ ap (λ o. outcome s (wake_in c k b d o)) q

-- a dispatcher that goes on
pub wake_is : (c b d : ℕ) (k k' : Core) (x x' : Block) (e : Entry) → after_wake c k b d x ≡ did (core_becomes c k' ∷ block_becomes b x' ∷ []) e → IsWake c b d k k' x x' e
unfolding turn_of
wake_is c b d k k' x x' e made s w r can at polls =
    ap (λ o. outcome s (core_turn c (action.Wake (record { 0 = b }) (record { 0 = d })) o)) at.core
    ∙ is_here s c k b d can.acts x can.here at.block
    ∙ waiting s c k b d x (slice_get x.control.states d) w can.waits
    ∙ ap (woken c k b d x w) at.channel
    ∙ wakes s c k b d x w r can.on
    ∙ made
