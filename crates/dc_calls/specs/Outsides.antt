-- The object outside a block that a call needs, as the program has it.
use Rattle.std.specs.Prelude.{◌<◌, ◌-◌, ◌^◌, ⊤}
use Rattle.dc_base.specs.declared.calls.Need.{Need}
use Rattle.dc_base.specs.declared.calls.Need.TheVariants as needs
use Rattle.dc_base.specs.Serving as seen
use Rattle.dc_calls.specs.declared.outsides.Outside.{Outside}
use Rattle.dc_calls.specs.declared.outsides.Outside.TheVariants as outside

abbrev pub outside_seen : Outside → seen.Outside
outside_seen outside.Nothing = seen.nothing_outside
outside_seen (outside.Channel r) = seen.channel_outside r
outside_seen (outside.Line w) = seen.line_outside w
outside_seen (outside.Console ws) = seen.console_outside ws

-- a channel can count one message more
abbrev pub HasRoom : Outside → Type 0
HasRoom (outside.Channel r) = r.sent < 2 ^ 64 - 1
HasRoom out = ⊤

-- an object of the kind that is needed, or nothing for a line that there is not
abbrev pub Fits : Need → Outside → Type 0
Fits needs.Nothing outside.Nothing = ⊤
Fits (needs.Channel x) (outside.Channel r) = ⊤
Fits (needs.Line l) outside.Nothing = ⊤
Fits (needs.Line l) (outside.Line w) = ⊤
Fits needs.Console (outside.Console ws) = ⊤
Fits n out = ⊥
