use Rattle.std.proofs.Common.{ap, sym, ◌∙◌}
use Rattle.dc_base.specs.Steps.{can_run}
use Rattle.dc_objects.specs.Blocks.{block_seen}
use Rattle.dc_objects.proofs.blocks.BlockState.runnable.Goals as goal

pub returns-in-Held : goal.returns-in-Held
returns-in-Held g c = c.runnable.ensures c.in-Held.core.0 ∙ ap (λ x. can_run c.args.clock x) (ap (λ f. block_seen g.D.Driver.held f) (sym c.in-Held.is) ∙ c.self.view_is)
