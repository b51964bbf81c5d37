use Rattle.std.proofs.Common.{◌∙◌, ◌<◌, ap, subst, sym}
use Rattle.dc_base.specs.Changes.{a_channel}
use Rattle.dc_hands.proofs.ObjectNumbers.{number_there, channel_number}
use Rattle.dc_hands.proofs.numbers.of_channel.Goals as goal

pub returns-clause-number : goal.returns-clause-number
returns-clause-number g c = channel_number c.args.stage.now _ _ c.args.x.0 (c.cores.ensures ∙ ap (λ m. m.settings.cores) c.scene.ensures) (c.blocks-2.ensures ∙ ap (λ m. m.settings.blocks) c.scene.ensures)

pub returns-clause-there : goal.returns-clause-there
returns-clause-there g c =
    subst (λ n. n < c.args.stage.now.objects) (sym (channel_number c.args.stage.now _ _ c.args.x.0 (c.cores.ensures ∙ ap (λ m. m.settings.cores) c.scene.ensures) (c.blocks-2.ensures ∙ ap (λ m. m.settings.blocks) c.scene.ensures)))
    (number_there c.args.stage.now c.requires.opened (a_channel c.args.x.0) c.requires.within)
