-- What a wake makes of a core and a block, whatever stands elsewhere.
use Rattle.std.specs.Prelude.{◌≡◌, ℕ, [], ◌∷◌, true, Some, None, slice_get}
use Rattle.dc_base.specs.declared.actions.Action.TheVariants as action
use Rattle.dc_base.specs.declared.actions.Actor.TheVariants as actor
use Rattle.dc_base.specs.declared.entries.Entry.{Entry}
use Rattle.dc_base.specs.Changes.{core_becomes, block_becomes}
use Rattle.dc_base.specs.Channels.{Ring}
use Rattle.dc_base.specs.Outcomes.{has}
use Rattle.dc_base.specs.States.{State, Core, Block}
use Rattle.dc_bodies.specs.declared.wakes.ChannelWait.{ChannelWait}
use Rattle.dc_bodies.specs.Does.{Does}
use Rattle.dc_bodies.specs.Stops.{stopped}
use Rattle.dc_bodies.specs.Waits.{channel_of, channel_wait, goes_on}

-- the core acts and has block b in its share, whose dispatcher d waits so on a channel and goes on there
pub record CanWake (k : Core) (b d : ℕ) (x : Block) (w : ChannelWait) (r : Ring) : Type 0 where
  pub acts : stopped k ≡ None
  pub here : has k.share b ≡ true
  pub waits : channel_wait (slice_get x.control.states d) ≡ Some w
  pub on : goes_on w r ≡ true

-- core c, block b and the channel on which a dispatcher waits so stand so
pub record StandToWake (s : State) (c : ℕ) (k : Core) (b : ℕ) (x : Block) (w : ChannelWait) (r : Ring) : Type 0 where
  pub core : slice_get s.cores c ≡ Some k
  pub block : slice_get s.blocks b ≡ Some x
  pub channel : slice_get s.channels (channel_of w).0 ≡ Some r

-- the wake of dispatcher d took core c and block b from the first to the second
abbrev pub IsWake : ℕ → ℕ → ℕ → Core → Core → Block → Block → Entry → Type 0
IsWake c b d k k' x x' e = (s : State) (w : ChannelWait) (r : Ring) → CanWake k b d x w r → StandToWake s c k b x w r →
    Does s (actor.Core (record { 0 = c })) (action.Wake (record { 0 = b }) (record { 0 = d })) (core_becomes c k' ∷ block_becomes b x' ∷ []) e
