-- What an entry of a core touches: the core, the blocks that it looks at, and what lies outside them.
use Rattle.std.specs.Prelude.{ℕ, List, [], ◌∷◌, ◌++◌, Option, Some, None, slice_get, map}
use Rattle.dc_base.specs.declared.calls.Need.{Need}
use Rattle.dc_base.specs.declared.calls.Need.TheVariants as needs
use Rattle.dc_base.specs.declared.dispatchers.DispState.{DispState}
use Rattle.dc_base.specs.declared.dispatchers.DispState.TheVariants as disp
use Rattle.dc_base.specs.declared.dispatchers.Wait.TheVariants as wait
use Rattle.dc_base.specs.declared.entries.What.{What}
use Rattle.dc_base.specs.declared.entries.What.TheVariants as what
use Rattle.dc_base.specs.Words.{bind}
use Rattle.dc_base.specs.ControlBlocks.{ControlBlock}
use Rattle.dc_base.specs.NeedsHere.{need_here}
use Rattle.dc_base.specs.States.{State, Settings, Core, Block, time_at}
use Rattle.dc_base.specs.Firing.{fire_all}
use Rattle.dc_base.specs.Slices.{halfway, need_of, without_ready, Halfway}
use Rattle.dc_base.specs.Changes.{Name, a_core, a_block, a_channel, a_line, a_mailbox, a_console}
use Rattle.dc_base.specs.Outcomes.{share_blocks}

-- a core with all blocks of its share
abbrev pub with_share : ℕ → Core → List Name
with_share c k = a_core c ∷ map a_block (share_blocks k.share)

-- the object outside block b that a call needs
abbrev pub needed : ℕ → Need → List Name
needed b needs.Nothing = []
needed b needs.Console = a_console b ∷ []
needed b (needs.Channel x) = a_channel x.0 ∷ []
needed b (needs.Line l) = a_line l.0 ∷ []

abbrev pub half_needs : Settings → ℕ → Option Halfway → List Name
half_needs t b None = []
half_needs t b (Some h) = needed b (need_here t (need_of h))

-- how far a slice comes by itself, once the timers that are due fired
abbrev pub half_slice : ℕ → ℕ → ControlBlock → ℕ → Option Halfway
half_slice quantum time control d = halfway quantum time (without_ready d (fire_all time control).control) d

-- what the slice of dispatcher d of block b needs outside the block
abbrev pub slice_needs : Core → ℕ → ℕ → Option Block → List Name
slice_needs k b d None = []
slice_needs k b d (Some x) = half_needs k.settings b (half_slice k.settings.quantum (time_at k.clock x.whereabouts) x.control d)

-- the channel that a dispatcher waits for
abbrev pub channel_of : Option DispState → List Name
channel_of (Some (disp.Waits (wait.Csend x))) = a_channel x.0 ∷ []
channel_of (Some (disp.Waits (wait.Crecv x))) = a_channel x.0 ∷ []
channel_of state = []

-- what an entry of core c touches, kind by kind
abbrev pub core_touches : State → ℕ → Core → What → List Name
core_touches s c k (what.Slice b d fired ran e clock) = with_share c k ++ slice_needs k b.0 d.0 (slice_get s.blocks b.0)
core_touches s c k (what.SliceNone b fired clock) = with_share c k
core_touches s c k (what.Idle clock) = with_share c k
core_touches s c k (what.Wake b d) = a_core c ∷ a_block b.0 ∷ channel_of (bind (slice_get s.blocks b.0) (λ (x : Block). slice_get x.control.states d.0))
core_touches s c k (what.Intake l n b i h) = a_core c ∷ a_block b.0 ∷ a_line l.0 ∷ []
core_touches s c k (what.Start v clock) = a_core c ∷ a_mailbox c ∷ []
core_touches s c k (what.Stop n) = with_share c k ++ a_mailbox c ∷ []
core_touches s c k (what.Replace v) = with_share c k ++ a_mailbox c ∷ []
core_touches s c k (what.Adopt b parked time) = a_core c ∷ a_block b.0 ∷ a_mailbox c ∷ []
core_touches s c k (what.Release b time) = a_core c ∷ a_block b.0 ∷ a_mailbox c ∷ []
core_touches s c k w = []
