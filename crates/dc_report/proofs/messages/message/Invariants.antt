use Rattle.std.proofs.Common.{◌≡◌}
use Rattle.dc_report.specs.Remaining.{part_lines}
use Rattle.dc_report.specs.declared.places.Part.TheVariants.{PortMessage}
use Rattle.dc_report.proofs.messages.message.Given as goal

-- no port so far has a message there
abbrev pub invariant-loop-port : goal.invariant-loop-port
invariant-loop-port g l = part_lines l.b l.block (PortMessage l.port l.at) ≡ part_lines l.b l.block (PortMessage l.p l.i)
