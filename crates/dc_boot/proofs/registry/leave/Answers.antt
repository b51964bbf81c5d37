use Rattle.std.proofs.Common.{ap, ◌∙◌, get_or}
use Rattle.std.specs.Prelude.{slice_set}
use Rattle.dc_base.specs.Boot.{none_on}
use Rattle.dc_boot.proofs.After.{one_more}
use Rattle.dc_boot.proofs.registry.leave.Goals as goal

pub loop-at-preserved : goal.loop-at-preserved
loop-at-preserved c =
    let at = c.loop-at.at in
    let place = c.index-places-at.result in
    ap (λ p. slice_set c.loop-at.places at p) (c.after_stop.ensures ∙ ap (none_on c.args.c.0) c.index-places-at.is)
    ∙ ap (λ ps. slice_set ps at (none_on c.args.c.0 (get_or ps at place))) c.loop-at.invariant
    ∙ one_more (none_on c.args.c.0) c.args.places.now at place c.loop-at-test.true
