-- What an entry touches, as a table of its kinds.
use Rattle.std.specs.Prelude.{ℕ, List, [], Option, Some, None, slice_get}
use Rattle.dc_base.specs.declared.actions.Actor.{Actor}
use Rattle.dc_base.specs.declared.actions.Actor.TheVariants as actor
use Rattle.dc_base.specs.declared.entries.Entry.{Entry}
use Rattle.dc_base.specs.declared.entries.What.{What}
use Rattle.dc_base.specs.States.{State, Core}
use Rattle.dc_base.specs.Changes.{Name}
use Rattle.dc_base.specs.CoreTouches.{core_touches}
use Rattle.dc_base.specs.ScriptTouches.{script_touches}

abbrev pub touched_by_core : State → ℕ → Option Core → What → List Name
touched_by_core s c None w = []
touched_by_core s c (Some k) w = core_touches s c k w

abbrev pub touched_by : State → Actor → What → List Name
touched_by s (actor.Core c) w = touched_by_core s c.0 (slice_get s.cores c.0) w
touched_by s actor.Script w = script_touches s.script w

-- the objects that an entry touches by the table
abbrev pub tabled_touches : State → Entry → List Name
tabled_touches s e = touched_by s e.actor e.what
