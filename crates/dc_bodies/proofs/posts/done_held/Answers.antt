use Rattle.std.proofs.Common.{ap, ◌∙◌}
use Rattle.dc_base.specs.declared.entries.What.TheVariants as what
use Rattle.dc_base.specs.Outcomes.{by_script}
use Rattle.dc_bodies.proofs.CommandTurns.{done_is}
use Rattle.dc_bodies.proofs.posts.done_held.Goals as goal

pub returns : goal.returns
returns c =
    done_is c.args.script.now c.finish.new.self c.args.command.now c.args.last c.args.emptied.now c.empty.result c.by_script.result c.requires.next c.requires.acked c.empty.ensures c.finish.ensures
    (c.by_script.ensures ∙ ap (λ n. by_script (what.Done n)) c.place-place.ensures.value)
