use Rattle.std.specs.Prelude.{Some}
use Rattle.dc_stage.proofs.steps.commit.Given as goal

abbrev pub ghosts-commit_as : goal.ghosts-commit_as
ghosts-commit_as g a = record { entry = Some a.entry.now }
