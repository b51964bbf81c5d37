use Rattle.std.proofs.Common.{Some, sym, subst, ap, ◌∙◌, refl}
use Rattle.dc_base.specs.declared.actions.Action.TheVariants as action
use Rattle.dc_base.specs.declared.actions.Actor.TheVariants as actor
use Rattle.dc_base.specs.declared.commands.ScriptLine.{ScriptLine}
use Rattle.dc_base.specs.declared.entries.Reason.TheVariants as reason
use Rattle.dc_base.specs.Cores.{core_step}
use Rattle.dc_bodies.specs.Scripted.{GoesOn}
use Rattle.dc_bodies.specs.declared.stops.Stepped.{Stepped}
use Rattle.dc_bodies.proofs.CommandTurns.{no_raise}
use Rattle.dc_objects.specs.States.{state_of}
use Rattle.dc_machine.specs.Answers.{Answers}
use Rattle.dc_machine.proofs.Bodies.{none_answers, none_step}
use Rattle.dc_machine.proofs.Scripted.{routed_there, awaited_there, limit_within}
use Rattle.dc_machine.proofs.ScriptTurns.{quiet_script, unchanged}
use Rattle.dc_machine.proofs.commands.command.Goals as goal

pub boot_turn-requires-clause-goes : goal.boot_turn-requires-clause-goes
boot_turn-requires-clause-goes g c κs within = subst (λ (y : ScriptLine). GoesOn (state_of c.args.objects.now).script y) c.in-Boot.is c.requires.goes

pub route-requires-clause-goes : goal.route-requires-clause-goes
route-requires-clause-goes g c κs within = subst (λ (y : ScriptLine). GoesOn (state_of c.args.objects.now).script y) c.in-Route.is c.requires.goes

pub route-requires-clause-line : goal.route-requires-clause-line
route-requires-clause-line g c κs within =
    let s = state_of c.args.objects.now in
    routed_there s s.script.place c.in-Route.l c.in-Route.core c.requires.sound (c.requires.goes.line ∙ ap (λ (y : ScriptLine). Some y) c.in-Route.is)

pub poll-requires-clause-goes : goal.poll-requires-clause-goes
poll-requires-clause-goes g c κs within = subst (λ (y : ScriptLine). GoesOn (state_of c.args.objects.now).script y) c.in-Await.is c.requires.goes

pub poll-requires-clause-block : goal.poll-requires-clause-block
poll-requires-clause-block g c κs within =
    let s = state_of c.args.objects.now in
    awaited_there s s.script.place c.in-Await.b c.in-Await.words c.in-Await.limit c.requires.sound (c.requires.goes.line ∙ ap (λ (y : ScriptLine). Some y) c.in-Await.is)

pub poll-requires-clause-limit : goal.poll-requires-clause-limit
poll-requires-clause-limit g c κs within =
    let s = state_of c.args.objects.now in
    limit_within s s.script.place c.in-Await.b c.in-Await.words c.in-Await.limit c.requires.sound (c.requires.goes.line ∙ ap (λ (y : ScriptLine). Some y) c.in-Await.is)

pub returns-in-Boot-clause-step : goal.returns-in-Boot-clause-step
returns-in-Boot-clause-step g c =
    let s = state_of c.args.objects.now in
    let p = c.args.polls.now in
    subst (λ (r : Stepped). Answers r s (state_of c.boot_turn.new.objects) (core_step s p actor.Script action.Script)) (sym c.without_poll.ensures.same) (c.boot_turn.ensures.step p)

pub returns-in-Boot-clause-polls : goal.returns-in-Boot-clause-polls
returns-in-Boot-clause-polls g c =
    let s = state_of c.args.objects.now in
    let p = c.args.polls.now in
    c.without_poll.ensures.polls
    ∙ quiet_script c.boot_turn.result s (state_of c.boot_turn.new.objects) p (core_step s p actor.Script action.Script) (c.boot_turn.ensures.step p) c.boot_turn.ensures.quiet

pub returns-in-Route-clause-step : goal.returns-in-Route-clause-step
returns-in-Route-clause-step g c =
    let s = state_of c.args.objects.now in
    let p = c.args.polls.now in
    subst (λ (r : Stepped). Answers r s (state_of c.route.new.objects) (core_step s p actor.Script action.Script)) (sym c.without_poll-in-Route.ensures.same) (c.route.ensures.step p)

pub returns-in-Route-clause-polls : goal.returns-in-Route-clause-polls
returns-in-Route-clause-polls g c =
    let s = state_of c.args.objects.now in
    let p = c.args.polls.now in
    c.without_poll-in-Route.ensures.polls
    ∙ quiet_script c.route.result s (state_of c.route.new.objects) p (core_step s p actor.Script action.Script) (c.route.ensures.step p) c.route.ensures.quiet

pub returns-in-Raise-clause-step : goal.returns-in-Raise-clause-step
returns-in-Raise-clause-step g c =
    let s = state_of c.args.objects.now in
    let goes = subst (λ (y : ScriptLine). GoesOn s.script y) c.in-Raise.is c.requires.goes in
    none_answers s actor.Script action.Script reason.ScriptEnded (no_raise s.script c.in-Raise.field-0 goes s refl) c.args.polls.now

pub returns-in-Raise-clause-polls : goal.returns-in-Raise-clause-polls
returns-in-Raise-clause-polls g c =
    let s = state_of c.args.objects.now in
    let p = c.args.polls.now in
    let goes = subst (λ (y : ScriptLine). GoesOn s.script y) c.in-Raise.is c.requires.goes in
    unchanged action.Script p reason.ScriptEnded (core_step s p actor.Script action.Script)
    (none_step s actor.Script action.Script reason.ScriptEnded (no_raise s.script c.in-Raise.field-0 goes s refl) p) tt
