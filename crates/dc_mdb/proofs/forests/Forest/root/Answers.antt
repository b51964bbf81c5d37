use Rattle.std.proofs.Common.{◌≡◌, sym, ap, ◌∙◌, false, arith, None, length-set}
use Rattle.dc_mdb.specs.Forests.{has_slot, with_node}
use Rattle.dc_mdb.specs.Links.{nodes_of}
use Rattle.dc_mdb.proofs.Forested.{unused, root_is_put, root_forest}
use Rattle.dc_mdb.proofs.Counted.{root_counted}
use Rattle.dc_mdb.proofs.forests.Forest.root.Goals as goal

pub invariant_of-self : goal.invariant_of-self
invariant_of-self c =
    let links = c.self.inside.links in
    let free : has_slot (nodes_of links) c.args.s ≡ false = ap (λ ns. has_slot ns c.args.s) c.self.view_is ∙ sym c.contains.ensures.value ∙ c.if-contains.false in
    record {
      forest = root_forest links c.self.invariant.forest c.args.s (omega arith) free (simp length-set (omega arith));
      counted = root_counted links c.self.inside.children c.self.invariant.counted c.args.s (omega arith) (unused links c.args.s free);
    }

pub returns-clause-ok : goal.returns-clause-ok
returns-clause-ok c =
    let links = c.self.inside.links in
    let free : has_slot (nodes_of links) c.args.s ≡ false = ap (λ ns. has_slot ns c.args.s) c.self.view_is ∙ sym c.contains.ensures.value ∙ c.if-contains.false in
    root_is_put links c.self.invariant.forest c.args.s (omega arith) free ∙ ap (with_node (c.args.s, None)) c.self.view_is
