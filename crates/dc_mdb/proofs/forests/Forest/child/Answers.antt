use Rattle.std.proofs.Common.{◌≡◌, sym, ap, ◌∙◌, true, false, arith, Some, length-set}
use Rattle.dc_mdb.specs.Forests.{has_slot, with_node}
use Rattle.dc_mdb.specs.Links.{nodes_of}
use Rattle.dc_mdb.proofs.Forested.{unused, child_is_put, child_forest}
use Rattle.dc_mdb.proofs.Counting.{most_children}
use Rattle.dc_mdb.proofs.Counted.{child_counted}
use Rattle.dc_mdb.proofs.forests.Forest.child.Goals as goal

pub invariant_of-self : goal.invariant_of-self
invariant_of-self c =
    let links = c.self.inside.links in
    let free : has_slot (nodes_of links) c.args.s ≡ false = ap (λ ns. has_slot ns c.args.s) c.self.view_is ∙ sym c.contains-2.ensures.value ∙ c.if-contains.false in
    let used : has_slot (nodes_of links) c.args.parent ≡ true = ap (λ ns. has_slot ns c.args.parent) c.self.view_is ∙ sym c.contains.ensures.value ∙ c.if-not-contains.false in
    record {
      forest = child_forest links c.self.invariant.forest c.args.s (omega arith) c.args.parent free used (simp length-set (omega arith));
      counted = child_counted links c.self.inside.children c.self.invariant.counted c.args.s c.args.parent (omega arith) (omega arith) (unused links c.args.s free);
    }

pub returns-clause-ok : goal.returns-clause-ok
returns-clause-ok c =
    let links = c.self.inside.links in
    let free : has_slot (nodes_of links) c.args.s ≡ false = ap (λ ns. has_slot ns c.args.s) c.self.view_is ∙ sym c.contains-2.ensures.value ∙ c.if-contains.false in
    child_is_put links c.self.invariant.forest c.args.s (omega arith) c.args.parent free ∙ ap (with_node (c.args.s, Some c.args.parent)) c.self.view_is

pub overflow_add-self : goal.overflow_add-self
overflow_add-self c =
    let a = c.self.invariant.counted c.args.parent in let b = most_children c.args.parent c.self.inside.links in omega (arith, a, b)
