-- Why a core makes no entry at all.
use Rattle.std.specs.Prelude.{Option, Some, None}
use Rattle.dc_bodies.specs.declared.stops.Stepped.{Stepped}
use Rattle.dc_bodies.specs.declared.stops.Stepped.TheVariants as stepped
use Rattle.dc_hands.specs.declared.answers.Turned.{Turned}
use Rattle.dc_hands.specs.declared.answers.Turned.TheVariants as turned

-- the answer of a turn that does not begin
abbrev pub stop_told : Option Stepped → Option Turned
stop_told (Some stepped.Spent) = Some turned.Spent
stop_told (Some (stepped.NotEnabled why)) = Some (turned.NotEnabled why)
stop_told o = None
