-- A whole slice as a turn of its core.
use Rattle.std.specs.Prelude.{ℕ, ◌+◌, [], ◌∷◌, Option, Some, None, slice_get}
use Rattle.dc_base.specs.declared.calls.Need.{Need}
use Rattle.dc_base.specs.declared.calls.Need.TheVariants as needs
use Rattle.dc_base.specs.declared.entries.What.TheVariants as what
use Rattle.dc_base.specs.declared.entries.Reason.TheVariants as reason
use Rattle.dc_base.specs.Changes.{core_becomes, block_becomes}
use Rattle.dc_base.specs.NeedsHere.{need_here}
use Rattle.dc_base.specs.Outcomes.{by_core}
use Rattle.dc_base.specs.Serving.{Outside, nothing_outside}
use Rattle.dc_base.specs.States.{State, Settings, Core, Block, with_control}
use Rattle.dc_base.specs.NeededLooks.{as_console, as_channel, as_line, outside_change}
use Rattle.dc_base.specs.SliceTurns.{core_after_slice}
use Rattle.dc_base.specs.Turns.{Outcome, did, not_enabled}
use Rattle.dc_kernel.specs.Done.{Done}

-- the object that a call of block b needs, in a state
abbrev pub look_in : State → ℕ → Need → Outside
look_in s b needs.Nothing = nothing_outside
look_in s b needs.Console = as_console (slice_get s.consoles b)
look_in s b (needs.Channel x) = as_channel (slice_get s.channels x.0)
look_in s b (needs.Line l) = as_line (slice_get s.lines l.0)

-- where it exists
abbrev pub look_here : Settings → State → ℕ → Need → Outside
look_here t s b n = look_in s b (need_here t n)

abbrev pub outcome_by : ℕ → Core → ℕ → Block → Need → Done → Option ℕ → Outcome
outcome_by c k b x n d None = did
    (core_becomes c (core_after_slice k b (k.clock + d.advance)) ∷ block_becomes b (with_control d.control x) ∷ [])
    (by_core c (what.SliceNone (record { 0 = b }) d.fired (k.clock + d.advance)))
outcome_by c k b x n d (Some e) = did
    (core_becomes c (core_after_slice k b (k.clock + d.advance)) ∷ block_becomes b (with_control d.control x) ∷ outside_change b n d.outside)
    (by_core c (what.Slice (record { 0 = b }) (record { 0 = e }) d.fired d.ran d.end (k.clock + d.advance)))

-- what the core's turn comes to, where the slice of block b does this and its call needs n
abbrev pub done_outcome : ℕ → Core → ℕ → Block → Need → Option Done → Outcome
done_outcome c k b x n None = not_enabled reason.Nothing
done_outcome c k b x n (Some d) = outcome_by c k b x n d d.disp
