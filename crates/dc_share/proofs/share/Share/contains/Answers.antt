use Rattle.std.proofs.Common.{ap, ◌∙◌, subst, ◌≤◌}
use Rattle.dc_base.specs.Placed.{count_in}
use Rattle.dc_base.specs.Outcomes.{has}
use Rattle.dc_share.proofs.share.Share.contains.Goals as goal

pub returns-clause-once : goal.returns-clause-once
returns-clause-once c = subst (λ s. count_in s c.args.b.0 ≤ 1) c.self.view_is (c.self.invariant.once c.args.b.0)

pub returns-clause-below : goal.returns-clause-below
returns-clause-below c = λ n h. c.self.invariant.below n (ap (λ s. has s n) c.self.view_is ∙ h)
