use Rattle.std.proofs.Common.{◌≡◌, sym, ap, ◌∙◌, arith, map, length-set}
use Rattle.std.specs.Prelude.{slice_index_or}
use Rattle.dc_mdb.specs.declared.links.Link.TheVariants.{Absent, Child}
use Rattle.dc_mdb.specs.Links.{with_link}
use Rattle.dc_mdb.specs.Counts.{child_count}
use Rattle.dc_mdb.proofs.Counting.{childless, emptied, most_children, none_hung}
use Rattle.dc_mdb.proofs.Counted.{hung_counted, parent_within, rootless_counted}
use Rattle.dc_mdb.proofs.links.hang.Goals as goal

pub returns-then-count-eq0-clause-links : goal.returns-then-count-eq0-clause-links
returns-then-count-eq0-clause-links c = none_hung c.args.s (slice_index_or c.args.links.now c.args.s Absent) c.args.links.now (sym (c.requires.counted c.args.s) ∙ c.if-count-eq0.true)

pub bounds-children-parent : goal.bounds-children-parent
bounds-children-parent c = let l = parent_within c.args.links.now c.args.children.now c.requires.counted c.args.s c.in-Child.parent c.in-Child.is in simp length-set (omega (arith, l))

pub bounds-children-parent-in-Child : goal.bounds-children-parent-in-Child
bounds-children-parent-in-Child c = let l = parent_within c.args.links.now c.args.children.now c.requires.counted c.args.s c.in-Child.parent c.in-Child.is in simp length-set (omega (arith, l))

pub overflow_add-children : goal.overflow_add-children
overflow_add-children c =
    let links = c.args.links.now in let children = c.args.children.now in let s = c.args.s in let p = c.in-Child.parent in
    let a = c.requires.counted s in let b = most_children s links in
    let d = c.requires.counted p in let e = most_children p links in
    let f = emptied children s p (omega arith) in omega (arith, a, b, d, e, f)

pub returns-in-Child-clause-counted : goal.returns-in-Child-clause-counted
returns-in-Child-clause-counted c q =
    let links = c.args.links.now in let children = c.args.children.now in let s = c.args.s in let p = c.in-Child.parent in
    let e : c.relink.new.links ≡ map (with_link s (Child p)) links = c.relink.ensures ∙ ap (λ l. map (with_link s l) links) c.in-Child.is in
    let l = parent_within links children c.requires.counted s p c.in-Child.is in
    hung_counted links children c.requires.counted s (omega arith) p (simp length-set (omega (arith, l))) q ∙ ap (child_count q) (sym e)

pub returns-in_default : goal.returns-in_default
returns-in_default c = record {
  links = c.relink.ensures;
  counted = λ q. rootless_counted c.args.links.now c.args.children.now c.requires.counted c.args.s (omega arith) (slice_index_or c.args.links.now c.args.s Absent) (childless (slice_index_or c.args.links.now c.args.s Absent) c.in_default.not-Child) q
      ∙ ap (child_count q) (sym c.relink.ensures);
}
