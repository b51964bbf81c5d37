use Rattle.std.proofs.Common.{◌+◌, subst, sym}
use Rattle.dc_base.specs.declared.entries.Reason.TheVariants as reason
use Rattle.dc_base.specs.States.{Script}
use Rattle.dc_bodies.specs.Awaits.{IsPoll}
use Rattle.dc_bodies.proofs.CommandTurns.{poll_is}
use Rattle.dc_bodies.proofs.commands.poll_held.Goals as goal

pub returns-clause-turn : goal.returns-clause-turn
returns-clause-turn c =
    let h = c.requires.poll in
    let t : Script = c.args.script.now in
    subst (λ n. IsPoll c.args.b.0 t c.args.console.now c.args.polls.now (reason.Few n (c.args.polls.now + 1))) (sym c.len.ensures.value)
    (poll_is t t c.args.console.now c.args.polls.now c.args.b h.0 h.1 h.2 h.3 h.4)
