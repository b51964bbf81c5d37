-- What a whole slice does.
use Rattle.std.specs.Prelude.{ℕ, Option, Some, None}
use Rattle.std.specs.Option.{option_map}
use Rattle.dc_base.specs.declared.calls.End.{End}
use Rattle.dc_base.specs.declared.calls.End.TheVariants as end
use Rattle.dc_base.specs.declared.calls.Need.{Need}
use Rattle.dc_base.specs.ControlBlocks.{ControlBlock}
use Rattle.dc_base.specs.Firing.{Fired}
use Rattle.dc_base.specs.Serving.{Outside, nothing_outside}
use Rattle.dc_base.specs.Slices as slice
use Rattle.dc_calls.specs.declared.sliced.Sliced.{Sliced}
use Rattle.dc_kernel.specs.Running.{Running, time_in}
use Rattle.dc_kernel.specs.Begins.{number_of, fired, picked}

pub record Done : Type 0 where
  pub control : ControlBlock
  -- none where no dispatcher was ready
  pub disp : Option ℕ
  pub fired : ℕ
  pub ran : ℕ
  pub end : End
  pub advance : ℕ
  -- the object that its call needed, as it is afterwards
  pub outside : Outside

abbrev pub done_by : ℕ → ℕ → slice.Sliced → Done
done_by d count sl = record { control = sl.control; disp = Some d; fired = count; ran = sl.ran; end = sl.end; advance = sl.advance; outside = sl.outside }

abbrev pub done_empty : Fired → Done
done_empty f = record { control = f.control; disp = None; fired = f.count; ran = 0; end = end.Empty; advance = 1; outside = nothing_outside }

abbrev pub done_picked : (Need → Outside) → ℕ → ℕ → ℕ → ℕ → Running → Fired → Option ℕ → Option Done
done_picked look quantum c n now r f None = Some (done_empty f)
done_picked look quantum c n now r f (Some d) =
    option_map (done_by d f.count) (slice.slice_of look quantum c n (time_in now r) r.version (slice.without_ready d f.control) d)

-- the slice of block n on core c, where look gives the object that its call needs
unfoldable pub done : (Need → Outside) → ℕ → ℕ → ℕ → ℕ → Running → Option Done
done look quantum c n now r = done_picked look quantum c n now r (fired now r) (picked now r)

-- as the program tells it
abbrev pub told : ControlBlock → Sliced → Outside → Done
told x s out = record { control = x; disp = number_of s.disp; fired = s.fired; ran = s.ran; end = s.end; advance = s.advance; outside = out }
