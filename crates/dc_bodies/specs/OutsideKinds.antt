-- Objects outside a block, by kind.
use Rattle.std.specs.Prelude.{⊤}
use Rattle.dc_base.specs.Serving.{Outside, nothing_outside, console_outside, channel_outside, line_outside}

-- an object of the same kind
abbrev pub SameKind : Outside → Outside → Type 0
SameKind nothing_outside nothing_outside = ⊤
SameKind (console_outside ws) (console_outside vs) = ⊤
SameKind (channel_outside r) (channel_outside q) = ⊤
SameKind (line_outside w) (line_outside v) = ⊤
SameKind out out' = ⊥
