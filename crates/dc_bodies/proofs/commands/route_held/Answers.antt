use Rattle.std.proofs.Common.{ap, ◌∙◌}
use Rattle.dc_base.specs.declared.entries.What.TheVariants as what
use Rattle.dc_base.specs.Outcomes.{by_script}
use Rattle.dc_bodies.proofs.CommandTurns.{route_is}
use Rattle.dc_bodies.proofs.commands.route_held.Goals as goal

pub returns : goal.returns
returns c =
    route_is c.args.script.now c.go_on.new.self c.args.wire.now c.route.new.self c.args.l c.args.core c.by_script.result c.requires c.route.ensures c.go_on.ensures
    (c.by_script.ensures ∙ ap (λ n. by_script (what.Route n c.args.l c.args.core)) c.place-place.ensures.value)
