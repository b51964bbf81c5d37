-- The lines of the generated script, block by block and core by core.
use Rattle.std.specs.Prelude.{ℕ, ◌-◌, ◌%◌, ◌==◌, List, [], ◌∷◌, if◌then◌else◌}
use Rattle.dc_base.specs.declared.kernels.Version.TheVariants.{Rr, Edf}
use Rattle.dc_base.specs.declared.commands.Command.TheVariants as command
use Rattle.dc_base.specs.declared.commands.ScriptLine.{ScriptLine}
use Rattle.dc_base.specs.declared.commands.ScriptLine.TheVariants as script

-- the two lines of a block from 8 on
abbrev pub attaching : ℕ → List ScriptLine
attaching b = script.Boot (command.Park (record { 0 = b - 8 }) (record { 0 = (b - 7) % 8 }))
    ∷ script.Boot (command.Attach (record { 0 = b }) (record { 0 = b - 8 })) ∷ []

-- the line of a core
abbrev pub replacing : ℕ → ScriptLine
replacing c = script.Boot (command.Replace (record { 0 = c }) (if c % 2 == 0 then Edf else Rr))
