use Rattle.std.proofs.Common.{◌∙◌, ap, arith}
use Rattle.std.specs.Prelude.{slice_index_or, slice_set}
use Rattle.std.proofs.lemmas.List.{get_or_default}
use Rattle.std.proofs.lemmas.List.Edits.{map_over_more}
use Rattle.dc_mdb.specs.declared.links.Link.TheVariants.{Absent}
use Rattle.dc_mdb.specs.Links.{with_link}
use Rattle.dc_mdb.proofs.links.relink.Goals as goal

pub loop-i-preserved : goal.loop-i-preserved
loop-i-preserved c =
    let xs = c.loop-i.links in let i = c.loop-i.i in let x = slice_index_or xs i Absent in
    ap (slice_set xs i) c.moved.ensures
    ∙ map_over_more (with_link c.args.s c.args.up) c.args.links.now xs i x c.loop-i-test.true c.loop-i.invariant (get_or_default xs i Absent x (omega arith))
