use Rattle.std.proofs.Common.{◌<◌, sym, ap, ◌∙◌, arith}
use Rattle.std.specs.Option.{option_map}
use Rattle.std.proofs.lemmas.Bool.Decides.{nat_tests}
use Rattle.dc_base.specs.Boot.{orders}
use Rattle.dc_boot.specs.Registries.{posted}
use Rattle.dc_bodies.proofs.CommandTurns.{no_last_at}
use Rattle.dc_bodies.proofs.posts.next_posting.Goals as goal

pub returns-in-None-clause-none : goal.returns-in-None-clause-none
returns-in-None-clause-none c =
    let h = c.if-posts-eq0.false in
    let some : 0 < c.posts-posts.result = grind (arith, nat_tests) in
    no_last_at c.args.script.now c.args.command.now c.requires.goes c.in-Ok.plan (c.in-Ok.ensures.plan ∙ ap (λ r. orders r c.args.command.now) c.registry.ensures) c.posts-posts.result c.posts-posts.ensures some
    (sym c.order_at.ensures ∙ ap (option_map posted) c.in-None.is)
