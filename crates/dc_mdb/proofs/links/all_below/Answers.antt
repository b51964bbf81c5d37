use Rattle.std.proofs.Common.{◌≡◌, ◌<◌, ◌++◌, [], ◌∷◌, sym, ◌∙◌, ap, length, arith}
use Rattle.dc_mdb.specs.Links.{nodes_of}
use Rattle.dc_mdb.specs.Forests.{parent_at, reaches_in}
use Rattle.dc_mdb.proofs.Descending.{found_next, found_none}
use Rattle.dc_mdb.proofs.Linked.{length_links}
use Rattle.dc_mdb.proofs.links.all_below.Goals.{then-is_below, else-is_below}
use Rattle.dc_mdb.proofs.links.all_below.Goals as goal

pub loop-slot-preserved : goal.loop-slot-preserved
loop-slot-preserved c =
    let links = c.args.links.now in let k = c.loop-slot.slot in
    let within : k < length links = omega arith in
    let few = length_links links in
    let answer : c.is_below.result ≡ reaches_in (length links) (nodes_of links) c.args.s (parent_at (nodes_of links) k) = c.is_below.ensures ∙ ap (reaches_in (length links) (nodes_of links) c.args.s) c.parent_of.ensures in
    elim c.if-is_below.branch [
      | then-is_below w ↦ rw w.below-is (record {
        items = w.push.ensures.items ∙ ap (λ xs. xs ++ k ∷ []) c.loop-slot.invariant.items ∙ sym (found_next links c.requires.forest c.args.s k within few (sym answer ∙ w.if-is_below.true));
        room = let l = w.push.ensures.len in omega arith;
      })
      | else-is_below w ↦ rw w.below-is (record {
        items = c.loop-slot.invariant.items ∙ sym (found_none links c.requires.forest c.args.s k within few (sym answer ∙ w.if-is_below.false));
        room = omega arith;
      })
    ]
