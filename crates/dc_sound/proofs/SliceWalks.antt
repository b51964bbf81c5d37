-- The changes of a control block that a whole slice makes.
use Rattle.std.proofs.Common.{◌≡◌, ℕ, ◌<◌, List, Some, subst, sym}
use Rattle.std.specs.Prelude.{slice_get}
use Rattle.dc_base.specs.declared.dispatchers.DispState.TheVariants as disp
use Rattle.dc_base.specs.declared.entries.Entry.{Entry}
use Rattle.dc_base.specs.Changes.{Change}
use Rattle.dc_base.specs.ControlBlocks.{ControlBlock}
use Rattle.dc_base.specs.KeptByBlocks.{AllReady}
use Rattle.dc_base.specs.Serving.{nothing_outside}
use Rattle.dc_base.specs.Slices.{Halfway, stopped, stands, slice_end, without_ready}
use Rattle.dc_base.specs.States.{State, time_on}
use Rattle.dc_block_sound.proofs.ControlSteps.{Steps, readied, further, joined, last}
use Rattle.dc_block_sound.proofs.Ready.{fire_owes, ready_owes, owes_ready, picked_in}
use Rattle.dc_block_sound.proofs.Walks.{HalfClaims, HalfFits, fire_steps, half_steps, end_without, end_here, is_ready_at}
use Rattle.dc_sound.proofs.EntryKinds.{after_timers, IsSlice, got_by, sliced_of}

picked_ready : (s : State) (chs : List Change) (e : Entry) (i : IsSlice s chs e) → AllReady s → slice_get (after_timers i.k.clock i.offset i.x.control).states i.d ≡ Some disp.Ready
picked_ready s chs e i ready =
    let y = after_timers i.k.clock i.offset i.x.control in
    let owes = fire_owes (λ d. 0) (time_on i.k.clock i.offset) i.x.control (ready_owes i.x.control (ready i.b i.x i.turn.block_at)) in
    let counts = owes_ready y owes i.d in
    let there = picked_in i.v y.dues y.ready i.d i.picked in
    is_ready_at (slice_get y.states i.d) (subst (λ n. 0 < n) counts there)

-- the whole slice
pub slice_steps : (s : State) (chs : List Change) (e : Entry) (i : IsSlice s chs e) → Steps s i.d (HalfClaims s i.h) i.x.control (sliced_of s chs e i).control
slice_steps s chs e i =
    let C = HalfClaims s i.h in
    let y = after_timers i.k.clock i.offset i.x.control in
    joined s i.d C i.x.control y _ (fire_steps s i.d C (time_on i.k.clock i.offset) i.x.control)
    (further y (without_ready i.d y) _ (readied y _) (end_here s i.d C i.k.settings i.c i.b i.v (without_ready i.d y) i.h (λ m f. f) (half_steps s i.d C i.k.settings.quantum (time_on i.k.clock i.offset) (without_ready i.d y) i.h (picked_ready s chs e i) i.halfway_at)))

-- how the block came to the call at which the slice stands
before_half : (s : State) (d : ℕ) (C : ℕ → Type 0) (x y : ControlBlock) → Steps s d C x y → (h : Halfway) → HalfFits s d C y h → HalfFits s d C x h
before_half s d C x y st (stopped z ran e) f = joined s d C x y z st f
before_half s d C x y st (stands z ran o call) f = (joined s d C x y z st f.0, f.1)

pub slice_half : (s : State) (chs : List Change) (e : Entry) (i : IsSlice s chs e) (C : ℕ → Type 0) → HalfFits s i.d C i.x.control i.h
slice_half s chs e i C =
    let y = after_timers i.k.clock i.offset i.x.control in
    let first : Steps s i.d C i.x.control (without_ready i.d y) = last s i.d C i.x.control y _ (fire_steps s i.d C (time_on i.k.clock i.offset) i.x.control) (readied y _) in
    before_half s i.d C i.x.control (without_ready i.d y) first i.h (half_steps s i.d C i.k.settings.quantum (time_on i.k.clock i.offset) (without_ready i.d y) i.h (picked_ready s chs e i) i.halfway_at)

-- it claims nothing where its call got nothing
pub slice_without : (s : State) (chs : List Change) (e : Entry) (i : IsSlice s chs e) (C : ℕ → Type 0) → got_by s chs e i ≡ nothing_outside → Steps s i.d C i.x.control (sliced_of s chs e i).control
slice_without s chs e i C got =
    subst (λ out. Steps s i.d C i.x.control (slice_end i.c i.b i.v i.d i.h out).control) (sym got) (end_without s i.d C i.c i.b i.v i.x.control i.h (slice_half s chs e i C))
