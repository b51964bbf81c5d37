-- Idle: the core's clock goes on to the first timer of its share.
use Rattle.std.specs.Prelude.{ℕ, List, [], ◌∷◌, Option, Some, None, map, pos, ◌-ℤ◌}
use Rattle.std.specs.List.{flat_map}
use Rattle.dc_base.specs.declared.interrupts.Timer.{Timer}
use Rattle.dc_base.specs.declared.entries.What.TheVariants as what
use Rattle.dc_base.specs.declared.entries.Reason.TheVariants as reason
use Rattle.dc_base.specs.Words.{least, above_zero}
use Rattle.dc_base.specs.States.{Core, Block, Whereabouts, rest, on}
use Rattle.dc_base.specs.Changes.{core_becomes}
use Rattle.dc_base.specs.Turns.{Outcome, did, not_enabled, Looked}
use Rattle.dc_base.specs.Outcomes.{by_core, with_clock}

-- the core clock at which a timer of the block is due
abbrev pub due_clock : Whereabouts → Timer → ℕ
due_clock (rest kept) t = t.deadline
due_clock (on c offset v) t = above_zero (pos t.deadline -ℤ offset)

abbrev pub due_clocks : Option Block → List ℕ
due_clocks None = []
due_clocks (Some x) = map (due_clock x.whereabouts) x.control.parts.timers

-- the least `deadline - offset` over all armed timers of the share
abbrev pub next_due : List Looked → Option ℕ
next_due share = least (flat_map (λ (l : Looked). due_clocks l.found) share)

-- the clock goes to that time, where there is one
unfoldable pub idle_outcome : ℕ → Core → Option ℕ → Outcome
idle_outcome c k None = not_enabled reason.Nothing
idle_outcome c k (Some clock) = did (core_becomes c (with_clock clock k) ∷ []) (by_core c (what.Idle clock))
