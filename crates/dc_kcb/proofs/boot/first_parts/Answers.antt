use Rattle.std.proofs.Common.{sym, ap, ◌∙◌}
use Rattle.std.specs.Prelude.{List, slice_get}
use Rattle.dc_base.specs.declared.images.DispImage.{DispImage}
use Rattle.dc_kcb.proofs.FirstParts.{seatable}
use Rattle.dc_kcb.proofs.boot.first_parts.Goals as goal

pub seated-requires-clause-caps : goal.seated-requires-clause-caps
seated-requires-clause-caps c i x e = seatable c.requires.0 c.requires.1 c.args.image.now x (c.requires.2.disps i x (ap (λ (ds : List DispImage). slice_get ds i) (sym c.as_slice-disps.ensures) ∙ e))
