use Rattle.std.proofs.Common.{arith}
use Rattle.std.specs.Prelude.{slice_index_or}
use Rattle.dc_mdb.specs.declared.links.Link.TheVariants.{Absent}
use Rattle.dc_mdb.proofs.Counting.{childless}
use Rattle.dc_mdb.proofs.Counted.{parent_counts, parent_within, less_counted, rest_counted}
use Rattle.dc_mdb.proofs.links.cut.Goals.{in-Child, in_default}
use Rattle.dc_mdb.proofs.links.cut.Goals as goal

pub bounds-children-parent : goal.bounds-children-parent
bounds-children-parent c = parent_within c.args.links.now c.args.children.now c.requires.counted c.args.s c.in-Child.parent c.in-Child.is

pub overflow_sub-children : goal.overflow_sub-children
overflow_sub-children c = let l = parent_counts c.args.links.now c.args.children.now c.requires.counted c.args.s c.in-Child.parent c.in-Child.is in omega (arith, l)

pub bounds-children-parent-in-Child : goal.bounds-children-parent-in-Child
bounds-children-parent-in-Child c = parent_within c.args.links.now c.args.children.now c.requires.counted c.args.s c.in-Child.parent c.in-Child.is

pub returns-clause-counted : goal.returns-clause-counted
returns-clause-counted c = elim c.match-links-s.branch [
  | in-Child w ↦ rw w.children-is (less_counted c.args.links.now c.args.children.now c.requires.counted c.args.s w.in-Child.parent c.requires.slot w.in-Child.is)
  | in_default w ↦ rw w.children-is (rest_counted c.args.links.now c.args.children.now c.requires.counted c.args.s c.requires.slot (childless (slice_index_or c.args.links.now c.args.s Absent) w.in_default.not-Child))
]
