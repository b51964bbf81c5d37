use Rattle.std.proofs.Common.{sym, ap, ◌∙◌, length, arith}
use Rattle.std.proofs.lemmas.List.{length-map}
use Rattle.dc_scene.specs.Objects.{object_seen}
use Rattle.dc_scene.proofs.openings.open_stage.Goals as goal

pub open-requires-clause-count : goal.open-requires-clause-count
open-requires-clause-count g c κs within =
    let e = sym (length-map c.args.held.items object_seen) ∙ (ap length c.requires.start ∙ c.objects_are_numbered.ensures.count c.args.machine.settings c.args.machine.start c.requires.sizes) in
    (omega (arith, e), c.requires.few)
