use Rattle.std.proofs.Common.{◌≡◌, ◌≤◌, drop}
use Rattle.dc_base.specs.Script.{command_from}
use Rattle.dc_objects.proofs.places.next_command.Given as goal

-- no command stands from the first place on so far
abbrev pub invariant-loop-at : goal.invariant-loop-at
invariant-loop-at l = record {
  told : command_from l.from l.at (drop l.at l.lines) ≡ command_from l.from 0 l.lines;
  past : l.from ≤ l.at;
}
