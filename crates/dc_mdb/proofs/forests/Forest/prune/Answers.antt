use Rattle.std.proofs.Common.{◌≡◌, sym, ap, ◌∙◌, arith, Some, length}
use Rattle.std.specs.Prelude.{slice_get, filter}
use Rattle.dc_mdb.specs.Forests.{without_descendants, descendants}
use Rattle.dc_mdb.specs.Links.{nodes_of}
use Rattle.dc_mdb.proofs.Clearing.{is_none_of, descendants_below}
use Rattle.dc_mdb.proofs.Childless.{no_descendants, no_descendants_out}
use Rattle.dc_mdb.proofs.Forested.{below_is_out, pruned_forest}
use Rattle.dc_mdb.proofs.forests.Forest.prune.Goals.{After-clear}
use Rattle.dc_mdb.proofs.forests.Forest.prune.Goals as goal

left_by : (c : After-clear) → nodes_of c.clear.new.links ≡ filter (is_none_of (descendants (nodes_of c.self.inside.links) c.args.s)) (nodes_of c.self.inside.links)
left_by c = c.clear.ensures.links ∙ ap (λ slots. filter (is_none_of slots) (nodes_of c.self.inside.links)) (c.as_slice.ensures.value ∙ c.all_below-below.ensures)

pub clear-requires-clause-slots : goal.clear-requires-clause-slots
clear-requires-clause-slots c i s e =
    let listed : slice_get (descendants (nodes_of c.self.inside.links) c.args.s) i ≡ Some s = ap (λ ss. slice_get ss i) (sym (c.as_slice.ensures.value ∙ c.all_below-below.ensures)) ∙ e in
    let l = descendants_below (nodes_of c.self.inside.links) c.args.s c.self.invariant.forest.below i s listed in
    omega (arith, l)

pub invariant_of-self : goal.invariant_of-self
invariant_of-self c = record {
  forest = pruned_forest c.self.inside.links c.clear.new.links c.self.invariant.forest c.args.s (left_by (goal.at.invariant_of-self c).After-clear) (let e = c.clear.auto.links in omega (arith, e));
  counted = c.clear.ensures.counted;
}

pub returns-clause-after : goal.returns-clause-after
returns-clause-after c = below_is_out c.self.inside.links c.clear.new.links c.self.invariant.forest c.args.s (left_by (goal.at.returns-clause-after c).After-clear) ∙ ap (without_descendants c.args.s) c.self.view_is

pub returns-then-not-has_children-clause-after : goal.returns-then-not-has_children-clause-after
returns-then-not-has_children-clause-after c = no_descendants_out c.args.s c.args.self.now (sym c.has_children.ensures.value ∙ c.if-not-has_children.true)

pub returns-then-not-has_children-clause-count : goal.returns-then-not-has_children-clause-count
returns-then-not-has_children-clause-count c = sym (ap length (no_descendants c.args.s c.args.self.now (sym c.has_children.ensures.value ∙ c.if-not-has_children.true)))
