use Rattle.std.proofs.Common.{◌∙◌, ◌<◌, ap, subst, sym}
use Rattle.dc_base.specs.Changes.{a_mailbox}
use Rattle.dc_hands.proofs.ObjectNumbers.{number_there, mailbox_number}
use Rattle.dc_hands.proofs.numbers.of_mailbox.Goals as goal

pub returns-clause-number : goal.returns-clause-number
returns-clause-number g c = mailbox_number c.args.stage.now _ _ _ _ c.args.c.0 (c.cores.ensures ∙ ap (λ m. m.settings.cores) c.scene.ensures) (c.blocks-2.ensures ∙ ap (λ m. m.settings.blocks) c.scene.ensures) (c.channels.ensures ∙ ap (λ m. m.settings.channels) c.scene.ensures) (c.lines.ensures ∙ ap (λ m. m.settings.lines) c.scene.ensures)

pub returns-clause-there : goal.returns-clause-there
returns-clause-there g c =
    subst (λ n. n < c.args.stage.now.objects) (sym (mailbox_number c.args.stage.now _ _ _ _ c.args.c.0 (c.cores.ensures ∙ ap (λ m. m.settings.cores) c.scene.ensures) (c.blocks-2.ensures ∙ ap (λ m. m.settings.blocks) c.scene.ensures) (c.channels.ensures ∙ ap (λ m. m.settings.channels) c.scene.ensures) (c.lines.ensures ∙ ap (λ m. m.settings.lines) c.scene.ensures)))
    (number_there c.args.stage.now c.requires.opened (a_mailbox c.args.c.0) c.requires.within)
