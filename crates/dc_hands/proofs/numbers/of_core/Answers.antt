use Rattle.std.proofs.Common.{◌<◌, subst, sym}
use Rattle.dc_base.specs.Changes.{a_core}
use Rattle.dc_hands.proofs.ObjectNumbers.{number_there, core_number}
use Rattle.dc_hands.proofs.numbers.of_core.Goals as goal

pub returns-clause-number : goal.returns-clause-number
returns-clause-number g c = core_number c.args.stage.now c.args.c.0

pub returns-clause-there : goal.returns-clause-there
returns-clause-there g c =
    subst (λ n. n < c.args.stage.now.objects) (sym (core_number c.args.stage.now c.args.c.0))
    (number_there c.args.stage.now c.requires.opened (a_core c.args.c.0) c.requires.within)
