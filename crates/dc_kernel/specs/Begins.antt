-- What a slice does up to its call.
use Rattle.std.specs.Prelude.{◌≡◌, ℕ, ◌≤◌, ◌<◌, Option, Some, None, slice_get, IsTrue, ⊤}
use Rattle.std.specs.Option.{option_map}
use Rattle.dc_base.specs.declared.calls.Need.{Need}
use Rattle.dc_base.specs.declared.calls.Need.TheVariants as needs
use Rattle.dc_base.specs.declared.numbers.DispNo.{DispNo}
use Rattle.dc_base.specs.Words.{bind}
use Rattle.dc_base.specs.Policies.{pick}
use Rattle.dc_base.specs.ControlBlocks.{ControlBlock}
use Rattle.dc_base.specs.Firing.{Fired, fire_all}
use Rattle.dc_base.specs.Ahead as plain
use Rattle.dc_base.specs.Slices.{Halfway, halfway, need_of, with_ahead, without_ready}
use Rattle.dc_exec.specs.declared.ends.Ran.{Ran}
use Rattle.dc_exec.specs.Ends.{end_seen, is_proper_end}
use Rattle.dc_block_sound.specs.SoundControls.{IsSoundControl}
use Rattle.dc_kernel.specs.declared.drivers.Begun.{Begun}
use Rattle.dc_kernel.specs.Running.{Running, time_in}

abbrev pub number_of : Option DispNo → Option ℕ
number_of o = option_map (λ (d : DispNo). d.0) o

-- the block after its due timers fired
abbrev pub fired : ℕ → Running → Fired
fired now r = fire_all (time_in now r) r.control

-- the dispatcher that runs
abbrev pub picked : ℕ → Running → Option ℕ
picked now r = pick r.version (fired now r).control.dues (fired now r).control.ready

-- the plain part of a slice of dispatcher d
abbrev pub ahead_at : ℕ → ℕ → ControlBlock → ℕ → Option plain.Ahead
ahead_at quantum time x d =
    bind (slice_get x.parts.code d) (λ code. bind (slice_get x.parts.contexts d) (λ c. Some (plain.ahead time code quantum c x.parts.memory)))

abbrev pub ahead_in : ℕ → ℕ → Running → Option plain.Ahead
ahead_in quantum now r = bind (picked now r) (ahead_at quantum (time_in now r) (fired now r).control)

-- how far the slice comes before the object is seen that its call needs
abbrev pub halfway_in : ℕ → ℕ → Running → Option Halfway
halfway_in quantum now r = bind (picked now r) (λ d. halfway quantum (time_in now r) (without_ready d (fired now r).control) d)

abbrev pub need_in : Option Halfway → Need
need_in None = needs.Nothing
need_in (Some h) = need_of h

abbrev pub IsQuantum : ℕ → Type 0
IsQuantum q = (0 < q) × (q ≤ 64)

-- the block once the plain part of the dispatcher that was picked has run
abbrev pub begun_control : ControlBlock → Option ℕ → Option plain.Ahead → ControlBlock
begun_control x None a = x
begun_control x (Some d) None = x
begun_control x (Some d) (Some a) = with_ahead x d a

-- the count and the end are those of the plain part, if one ran
abbrev pub TellsPlain : Ran → Option plain.Ahead → Type 0
TellsPlain r None = ⊤
TellsPlain r (Some a) = (r.ran ≡ a.ran) × (end_seen r.end ≡ a.end)

-- a slice of the sound block has come to its call; its dispatcher still stands in the ready list
pub record IsBegun (quantum now : ℕ) (before between : Running) (b : Begun) : Type 0 where
  pub sound : IsSoundControl before.control
  pub disp : number_of b.disp ≡ picked now before
  pub count : b.fired ≡ (fired now before).count
  pub block : between ≡ record before { control = begun_control (fired now before).control (picked now before) (ahead_in quantum now before) }
  pub plain : TellsPlain b.plain (ahead_in quantum now before)
  pub proper : IsTrue (is_proper_end b.plain.end)
  pub need : b.need ≡ need_in (halfway_in quantum now before)

-- it has, for some quantum and some block before
abbrev pub IsSomeBegun : ℕ → Running → Begun → Type 0
IsSomeBegun now between b = (q : ℕ) × (before : Running) × IsQuantum q × IsBegun q now before between b
