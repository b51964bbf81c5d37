-- How the plain part of a slice ends.
use Rattle.std.specs.Prelude.{Bool, true}
use Rattle.dc_base.specs.Ahead.{at_quantum, at_halt, at_trap}
use Rattle.dc_base.specs.Ahead as spec
use Rattle.dc_exec.specs.declared.ends.AheadEnd.{AheadEnd}
use Rattle.dc_exec.specs.declared.ends.AheadEnd.TheVariants as end
use Rattle.dc_exec.specs.Calls.{end_at_call, is_proper_call}

abbrev pub end_seen : AheadEnd → spec.AheadEnd
end_seen end.Quantum = at_quantum
end_seen end.Halt = at_halt
end_seen (end.Trap x) = at_trap x
end_seen (end.Call i) = end_at_call i

-- an end at an instruction is one at a kernel call
abbrev pub is_proper_end : AheadEnd → Bool
is_proper_end (end.Call i) = is_proper_call i
is_proper_end _ = true
