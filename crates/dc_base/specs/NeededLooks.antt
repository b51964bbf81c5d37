-- The object outside a block that a call needs: how a turn looks at it, and what it becomes.
use Rattle.std.specs.Prelude.{ℕ, List, [], ◌∷◌, Option, Some, None}
use Rattle.dc_base.specs.declared.calls.Need.{Need}
use Rattle.dc_base.specs.declared.calls.Need.TheVariants as needs
use Rattle.dc_base.specs.Channels.{Ring}
use Rattle.dc_base.specs.Lines.{Wire}
use Rattle.dc_base.specs.Serving.{Outside, nothing_outside, console_outside, channel_outside, line_outside}
use Rattle.dc_base.specs.Changes.{Change, channel_becomes, line_becomes, console_becomes}
use Rattle.dc_base.specs.Turns.{Turn, look_channel, look_line, look_console}

abbrev pub as_console : Option (List ℕ) → Outside
as_console None = nothing_outside
as_console (Some ws) = console_outside ws

abbrev pub as_channel : Option Ring → Outside
as_channel None = nothing_outside
as_channel (Some r) = channel_outside r

abbrev pub as_line : Option Wire → Outside
as_line None = nothing_outside
as_line (Some w) = line_outside w

-- the object outside block b that its call needs is looked at
unfoldable pub look_outside : ℕ → Need → (Outside → Turn) → Turn
look_outside b needs.Nothing next = next nothing_outside
look_outside b needs.Console next = look_console b (λ o. next (as_console o))
look_outside b (needs.Channel x) next = look_channel x.0 (λ o. next (as_channel o))
look_outside b (needs.Line l) next = look_line l.0 (λ o. next (as_line o))

-- that object as the call left it
unfoldable pub outside_change : ℕ → Need → Outside → List Change
outside_change b needs.Console (console_outside ws) = console_becomes b ws ∷ []
outside_change b (needs.Channel x) (channel_outside r) = channel_becomes x.0 r ∷ []
outside_change b (needs.Line l) (line_outside w) = line_becomes l.0 w ∷ []
outside_change b n out = []
