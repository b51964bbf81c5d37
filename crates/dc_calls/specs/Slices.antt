-- What a slice does once its timers have fired.
use Rattle.std.specs.Prelude.{◌≡◌, ◌≤◌, ℕ, IfSome, ⊤}
use Rattle.dc_base.specs.declared.calls.Need.{Need}
use Rattle.dc_base.specs.Ahead as plain
use Rattle.dc_base.specs.ControlBlocks.{ControlBlock}
use Rattle.dc_base.specs.Serving as seen
use Rattle.dc_base.specs.Slices as slice
use Rattle.dc_exec.specs.declared.ends.Ran.{Ran}
use Rattle.dc_exec.specs.Ends.{end_seen}
use Rattle.dc_calls.specs.declared.sliced.Sliced.{Sliced}
use Rattle.dc_calls.specs.declared.outsides.Outside.{Outside}
use Rattle.dc_calls.specs.declared.outsides.Outside.TheVariants as outside

-- the plain part of dispatcher d ran: the block, the count and the end are those that it leaves
pub record IsRun (d : ℕ) (x x' : ControlBlock) (r : Ran) (a : plain.Ahead) : Type 0 where
  pub control : x' ≡ slice.with_ahead x d a
  pub ran : r.ran ≡ a.ran
  pub end : end_seen r.end ≡ a.end

-- how far the slice of dispatcher d comes, from its plain part
abbrev pub half_of : ℕ → ℕ → ControlBlock → plain.Ahead → slice.Halfway
half_of time d x a = slice.after_ahead time (slice.without_ready d x) d a a.end

-- as the program tells it
abbrev pub sliced_seen : ControlBlock → Sliced → Need → seen.Outside → slice.Sliced
sliced_seen x s n out = record { control = x; ran = s.ran; end = s.end; advance = s.advance; need = n; outside = out }

-- the offered rights of a line are at most 7
abbrev pub OffersWithin : Outside → Type 0
OffersWithin (outside.Line w) = IfSome w.offer (λ (o : ℕ × ℕ). o.1 ≤ 7)
OffersWithin out = ⊤
