use Rattle.std.proofs.Common.{◌∙◌}
use Rattle.dc_kcb.proofs.FirstParts.{resting_first, whole_first}
use Rattle.dc_kcb.proofs.kcb.Kcb.boot.Goals as goal

pub put_together-requires : goal.put_together-requires
put_together-requires c = whole_first c.args.image.now c.in_ok-parts.parts c.in_ok-parts.ensures c.requires.2.most (c.started_controls_are_sound.ensures c.requires.0 c.requires.1 c.args.image.now c.requires.2)

pub returns : goal.returns
returns c = c.put_together.ensures ∙ resting_first c.args.image.now c.in_ok-parts.parts c.in_ok-parts.ensures
