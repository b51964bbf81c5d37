-- What the statements of the code stand for.
use Rattle.dc_base.specs.TextWords.{words_by}
use Rattle.dc_base.specs.ProgramText as spec
use Rattle.dc_base.specs.ProgramText.{separates}
use Rattle.dc_isa.specs.declared.statements.Statement.{Statement}
use Rattle.dc_isa.specs.declared.statements.Statement.TheVariants as statement

abbrev pub statement_seen : Statement → spec.Statement
statement_seen statement.Nothing = spec.nothing
statement_seen (statement.Label name) = spec.label name.now
statement_seen (statement.Instruction name operands) = spec.instruction name.now (words_by separates operands.now)
