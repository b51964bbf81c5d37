-- What a sound state says of one block or line.
use Rattle.std.proofs.Common.{◌≡◌, ℕ, ◌<◌, true, Option, Some, None, IsSome, refl, sym, subst, length}
use Rattle.std.specs.Prelude.{slice_get}
use Rattle.dc_base.specs.declared.dispatchers.DispState.{DispState}
use Rattle.dc_base.specs.declared.dispatchers.DispState.TheVariants as disp
use Rattle.dc_base.specs.declared.dispatchers.Wait.TheVariants as wait
use Rattle.dc_base.specs.KeptByBlocks.{HasShape}
use Rattle.dc_base.specs.Named.{StateNames}
use Rattle.dc_base.specs.Outcomes.{has}
use Rattle.dc_base.specs.Placed.{IsOn}
use Rattle.dc_base.specs.Sound.{IsSound}
use Rattle.dc_base.specs.States.{State, Core, Block, Whereabouts, rest, on}
use Rattle.dc_objects.specs.Blocks.{IsHeld, IsHeldAt}
use Rattle.dc_bodies.specs.declared.wakes.ChannelWait.{ChannelWait}
use Rattle.dc_bodies.specs.declared.wakes.ChannelWait.TheVariants as channel
use Rattle.dc_bodies.specs.Waits.{channel_wait, channel_of}

held_at : (c : ℕ) (w : Whereabouts) → IsOn c w → IsHeldAt w
held_at c (rest kept) h = absurd h
held_at c (on d offset v) h = tt

-- a block of a share is there, and on a core
pub record IsHere (s : State) (b : ℕ) : Type 0 where
  pub block : Block
  pub there : slice_get s.blocks b ≡ Some block
  pub held : IsHeld block

pub here : (s : State) (c : ℕ) (k : Core) (b : ℕ) → IsSound s → slice_get s.cores c ≡ Some k → has k.share b ≡ true → IsHere s b
here s c k b h e a = let o = h.placed.only c k e b a in record { block = o.0; there = o.1; held = held_at c (o.0).whereabouts o.2 }

pub shape : (s : State) (b : ℕ) (x : Block) → IsSound s → slice_get s.blocks b ≡ Some x → HasShape x.control
shape s b x h e = h.shapes b x e

names_channel : (s : State) (x : Block) (o : Option DispState) (w : ChannelWait) → ((state : DispState) → o ≡ Some state → StateNames s x.control state) → channel_wait o ≡ Some w → (channel_of w).0 < length s.channels
names_channel s x None w h e = absurd cc
names_channel s x (Some disp.Ready) w h e = absurd cc
names_channel s x (Some disp.Halted) w h e = absurd cc
names_channel s x (Some (disp.Trapped t)) w h e = absurd cc
names_channel s x (Some (disp.Waits (wait.Send p))) w h e = absurd cc
names_channel s x (Some (disp.Waits (wait.Recv p))) w h e = absurd cc
names_channel s x (Some (disp.Waits (wait.Signal i))) w h e = absurd cc
names_channel s x (Some (disp.Waits (wait.Csend y))) w h e = subst (λ v. (channel_of v).0 < length s.channels) (let k : channel.Sends y ≡ w = cc in k) (h (disp.Waits (wait.Csend y)) refl)
names_channel s x (Some (disp.Waits (wait.Crecv y))) w h e = subst (λ v. (channel_of v).0 < length s.channels) (let k : channel.Receives y ≡ w = cc in k) (h (disp.Waits (wait.Crecv y)) refl)

-- the channel is there on which a dispatcher waits
pub waits_there : (s : State) (b : ℕ) (x : Block) (d : ℕ) (w : ChannelWait) → IsSound s → slice_get s.blocks b ≡ Some x → channel_wait (slice_get x.control.states d) ≡ Some w → (channel_of w).0 < length s.channels
waits_there s b x d w h e a = names_channel s x (slice_get x.control.states d) w ((h.named.blocks b x e).waiters d) a

pub held_as : (x y : Block) → Some x ≡ Some y → IsHeld x → IsHeld y
held_as x y e h = subst (λ o. HeldIn o) e h
  where
    HeldIn : Option Block → Type 0
    HeldIn None = ⊥
    HeldIn (Some z) = IsHeld z

pub waits_so : {o : Option ChannelWait} {w : ChannelWait} → o ≡ Some w → IsSome o
waits_so e = subst (λ o. IsSome o) (sym e) refl
