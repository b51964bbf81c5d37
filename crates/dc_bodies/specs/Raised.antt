-- What a line of a script raises.
use Rattle.std.specs.Prelude.{Option, Some, None}
use Rattle.dc_base.specs.declared.commands.ScriptLine.{ScriptLine}
use Rattle.dc_base.specs.declared.commands.ScriptLine.TheVariants as line
use Rattle.dc_base.specs.declared.numbers.LineNo.{LineNo}

-- the line of the machine, if it raises one
abbrev pub raised_by : Option ScriptLine → Option LineNo
raised_by (Some (line.Raise l)) = Some l
raised_by o = None
