use Rattle.std.proofs.Common.{◌∙◌, ◌<◌, ap, subst, sym}
use Rattle.dc_base.specs.Changes.{a_line}
use Rattle.dc_hands.proofs.ObjectNumbers.{number_there, line_number}
use Rattle.dc_hands.proofs.numbers.of_line.Goals as goal

pub returns-clause-number : goal.returns-clause-number
returns-clause-number g c = line_number c.args.stage.now _ _ _ c.args.l.0 (c.cores.ensures ∙ ap (λ m. m.settings.cores) c.scene.ensures) (c.blocks-2.ensures ∙ ap (λ m. m.settings.blocks) c.scene.ensures) (c.channels.ensures ∙ ap (λ m. m.settings.channels) c.scene.ensures)

pub returns-clause-there : goal.returns-clause-there
returns-clause-there g c =
    subst (λ n. n < c.args.stage.now.objects) (sym (line_number c.args.stage.now _ _ _ c.args.l.0 (c.cores.ensures ∙ ap (λ m. m.settings.cores) c.scene.ensures) (c.blocks-2.ensures ∙ ap (λ m. m.settings.blocks) c.scene.ensures) (c.channels.ensures ∙ ap (λ m. m.settings.channels) c.scene.ensures)))
    (number_there c.args.stage.now c.requires.opened (a_line c.args.l.0) c.requires.within)
