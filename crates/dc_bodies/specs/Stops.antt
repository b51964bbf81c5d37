-- Why a core does nothing at all.
use Rattle.std.specs.Prelude.{◌==◌, Option, Some, None, if◌then◌else◌}
use Rattle.dc_base.specs.declared.entries.Reason.TheVariants as reason
use Rattle.dc_base.specs.declared.kernels.Version.{Version}
use Rattle.dc_base.specs.States.{Core}
use Rattle.dc_bodies.specs.declared.stops.Stepped.{Stepped}
use Rattle.dc_bodies.specs.declared.stops.Stepped.TheVariants as stepped

abbrev pub stopped_at : Option Version → Option Stepped
stopped_at None = Some (stepped.NotEnabled reason.CoreOff)
stopped_at (Some v) = None

-- its budget is used, or it is off
abbrev pub stopped : Core → Option Stepped
stopped k = if k.used == k.settings.slices then Some stepped.Spent else stopped_at k.version
