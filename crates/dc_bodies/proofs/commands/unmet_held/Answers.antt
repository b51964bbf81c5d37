use Rattle.std.proofs.Common.{ap, ◌∙◌}
use Rattle.dc_base.specs.declared.entries.What.TheVariants as what
use Rattle.dc_base.specs.Outcomes.{by_script}
use Rattle.dc_bodies.proofs.CommandTurns.{unmet_is}
use Rattle.dc_bodies.proofs.commands.unmet_held.Goals as goal

pub returns-clause-turn : goal.returns-clause-turn
returns-clause-turn c =
    let h = c.requires in
    unmet_is c.args.script.now c.go_on.new.self c.args.console.now c.args.polls.now c.args.b h.0 h.1 h.2 c.by_script.result h.3 h.4 c.go_on.ensures
    (c.by_script.ensures ∙ ap (λ n. by_script (what.Unmet n c.args.b c.len-seen.result)) c.place-place.ensures.value ∙ ap (λ n. by_script (what.Unmet c.args.script.now.place c.args.b n)) c.len-seen.ensures.value)
