use Rattle.std.proofs.Common.{ap, ◌∙◌}
use Rattle.dc_base.specs.declared.entries.What.TheVariants as what
use Rattle.dc_base.specs.Outcomes.{by_script}
use Rattle.dc_bodies.proofs.CommandTurns.{refused_is}
use Rattle.dc_bodies.proofs.posts.refuse_held.Goals as goal

pub returns : goal.returns
returns c =
    refused_is c.args.script.now c.go_on.new.self c.args.refusal c.by_script.result c.requires c.go_on.ensures
    (c.by_script.ensures ∙ ap (λ n. by_script (what.Refused n c.args.refusal)) c.place-place.ensures.value)
