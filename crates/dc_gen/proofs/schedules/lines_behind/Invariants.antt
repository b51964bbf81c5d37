use Rattle.std.proofs.Common.{◌≡◌, ◌++◌, ◌-◌}
use Rattle.dc_base.specs.Generated.{generated_lines}
use Rattle.dc_gen.proofs.schedules.lines_behind.Given as goal

-- the lines so far, and those that follow
abbrev pub invariant-loop : goal.invariant-loop
invariant-loop l = l.lines ++ generated_lines (l.count - l.counter) l.x ≡ generated_lines l.count l.first
