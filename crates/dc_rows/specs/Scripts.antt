-- The lines of scripts, written as their texts read.
use Rattle.std.specs.Prelude.{ℕ}
use Rattle.dc_base.specs.declared.kernels.Version.{Version}
use Rattle.dc_base.specs.declared.commands.Command.TheVariants as command
use Rattle.dc_base.specs.declared.commands.ScriptLine.{ScriptLine}
use Rattle.dc_base.specs.declared.commands.ScriptLine.TheVariants as said

abbrev pub start : ℕ → Version → ScriptLine
start c v = said.Boot (command.Start (record { 0 = c }) v)

abbrev pub stop : ℕ → ScriptLine
stop c = said.Boot (command.Stop (record { 0 = c }))

abbrev pub replace : ℕ → Version → ScriptLine
replace c v = said.Boot (command.Replace (record { 0 = c }) v)

abbrev pub attach : ℕ → ℕ → ScriptLine
attach b c = said.Boot (command.Attach (record { 0 = b }) (record { 0 = c }))

abbrev pub move : ℕ → ℕ → ScriptLine
move b c = said.Boot (command.Move (record { 0 = b }) (record { 0 = c }))

abbrev pub park : ℕ → ℕ → ScriptLine
park b c = said.Boot (command.Park (record { 0 = b }) (record { 0 = c }))

abbrev pub unpark : ℕ → ℕ → ScriptLine
unpark b c = said.Boot (command.Unpark (record { 0 = b }) (record { 0 = c }))

abbrev pub raise : ℕ → ScriptLine
raise l = said.Raise (record { 0 = l })

abbrev pub route : ℕ → ℕ → ScriptLine
route l c = said.Route (record { 0 = l }) (record { 0 = c })

abbrev pub await : ℕ → ℕ → ℕ → ScriptLine
await b words polls = said.Await (record { 0 = b }) words polls
