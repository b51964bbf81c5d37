-- A slice of one block: its due timers fire, a dispatcher is picked and runs, and a call of it is served.
use Rattle.std.specs.Prelude.{ℕ, ◌+◌, [], ◌∷◌, Option, Some, None}
use Rattle.dc_base.specs.declared.kernels.Version.{Version}
use Rattle.dc_base.specs.declared.entries.Entry.{Entry}
use Rattle.dc_base.specs.declared.entries.What.TheVariants as what
use Rattle.dc_base.specs.declared.entries.Reason.TheVariants as reason
use Rattle.dc_base.specs.Policies.{pick}
use Rattle.dc_base.specs.States.{Core, Block, with_control, Whereabouts, rest, on, time_on}
use Rattle.dc_base.specs.Firing.{Fired, fire_all}
use Rattle.dc_base.specs.Slices.{Sliced, Halfway, halfway, need_of, slice_end, without_ready}
use Rattle.dc_base.specs.NeedsHere.{need_here}
use Rattle.dc_base.specs.NeededLooks.{look_outside, outside_change}
use Rattle.dc_base.specs.Changes.{core_becomes, block_becomes}
use Rattle.dc_base.specs.Turns.{Outcome, did, not_enabled, Turn, ends}
use Rattle.dc_base.specs.Outcomes.{by_core, share_with_last, with_clock}

-- a slice of block b took the core's clock this far
abbrev pub core_after_slice : Core → ℕ → ℕ → Core
core_after_slice k b clock = record (with_clock clock k) { share = share_with_last b k.share }

-- the entry of a slice in which dispatcher d ran
abbrev pub slice_entry : ℕ → ℕ → ℕ → ℕ → Sliced → ℕ → Entry
slice_entry c b d count sl clock = by_core c (what.Slice (record { 0 = b }) (record { 0 = d }) count sl.ran sl.end clock)

-- what such a slice comes to, after count timers fired
abbrev pub slice_outcome : ℕ → Core → ℕ → Block → ℕ → ℕ → Sliced → Outcome
slice_outcome c k b x d count sl = did
    (core_becomes c (core_after_slice k b (k.clock + sl.advance)) ∷ block_becomes b (with_control sl.control x) ∷ outside_change b sl.need sl.outside)
    (slice_entry c b d count sl (k.clock + sl.advance))

-- the object that the call needs is looked at, where it exists, and the slice ends
abbrev pub finish_slice : ℕ → Core → ℕ → Block → Version → ℕ → ℕ → Option Halfway → Turn
finish_slice c k b x v d count None = ends (not_enabled reason.Nothing)
finish_slice c k b x v d count (Some h) =
    look_outside b (need_here k.settings (need_of h)) (λ out. ends (slice_outcome c k b x d count (slice_end c b v d h out)))

-- what a slice comes to in which no dispatcher was ready
abbrev pub empty_outcome : ℕ → Core → ℕ → Block → Fired → Outcome
empty_outcome c k b x f = did
    (core_becomes c (core_after_slice k b (k.clock + 1)) ∷ block_becomes b (with_control f.control x) ∷ [])
    (by_core c (what.SliceNone (record { 0 = b }) f.count (k.clock + 1)))

-- a slice in which a dispatcher ran, or none where there was none
abbrev pub slice_picked : ℕ → Core → ℕ → Block → ℕ → Version → Fired → Option ℕ → Turn
slice_picked c k b x time v f None = ends (empty_outcome c k b x f)
slice_picked c k b x time v f (Some d) = finish_slice c k b x v d f.count (halfway k.settings.quantum time (without_ready d f.control) d)

-- the due timers of the block fire, and then its version picks a dispatcher
abbrev pub slice_from : ℕ → Core → ℕ → Block → Whereabouts → Turn
slice_from c k b x (rest kept) = ends (not_enabled reason.Nothing)
slice_from c k b x (on core offset v) =
    let fired = fire_all (time_on k.clock offset) x.control in
    slice_picked c k b x (time_on k.clock offset) v fired (pick v fired.control.dues fired.control.ready)

-- a slice of block b
unfoldable pub slice_turn : ℕ → Core → ℕ → Option Block → Turn
slice_turn c k b None = ends (not_enabled reason.Nothing)
slice_turn c k b (Some x) = slice_from c k b x x.whereabouts
