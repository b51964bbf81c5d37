use Rattle.std.proofs.Common.{arith, sym, ◌∙◌}
use Rattle.dc_caps.proofs.Holding.{no_parent, no_child, a_child}
use Rattle.dc_caps.proofs.held.has_child_within.Goals as goal

pub returns-then-is_child_within : goal.returns-then-is_child_within
returns-then-is_child_within c = sym (a_child c.args.caps.now c.args.forest.now c.args.slot c.args.first c.args.words c.loop-s.s (sym c.is_child_within.ensures.value ∙ c.if-is_child_within.true))

pub returns : goal.returns
returns c = sym (no_child c.args.caps.now c.args.forest.now c.args.slot c.args.first c.args.words (c.loop-s.invariant.forest (omega arith)) (λ k l. c.loop-s.invariant.none k (omega (arith, l))))

pub returns-then-not-has_children : goal.returns-then-not-has_children
returns-then-not-has_children c = sym (no_parent c.args.caps.now c.args.forest.now c.args.slot c.args.first c.args.words (sym c.has_children.ensures.value ∙ c.if-not-has_children.true))
