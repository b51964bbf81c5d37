use Rattle.std.proofs.Common.{◌∙◌, ◌<◌, ap, subst, sym}
use Rattle.dc_base.specs.Changes.{a_block}
use Rattle.dc_hands.proofs.ObjectNumbers.{number_there, block_number}
use Rattle.dc_hands.proofs.numbers.of_block.Goals as goal

pub returns-clause-number : goal.returns-clause-number
returns-clause-number g c = block_number c.args.stage.now _ c.args.b.0 (c.cores.ensures ∙ ap (λ m. m.settings.cores) c.scene.ensures)

pub returns-clause-there : goal.returns-clause-there
returns-clause-there g c =
    subst (λ n. n < c.args.stage.now.objects) (sym (block_number c.args.stage.now _ c.args.b.0 (c.cores.ensures ∙ ap (λ m. m.settings.cores) c.scene.ensures)))
    (number_there c.args.stage.now c.requires.opened (a_block c.args.b.0) c.requires.within)
