use Rattle.std.proofs.Common.{[], ◌∷◌, refl}
use Rattle.dc_base.specs.declared.actions.Action.TheVariants as action
use Rattle.dc_base.specs.Changes.{script_becomes, the_script}
use Rattle.dc_hands.specs.Machines.{state_after}
use Rattle.dc_script_turns.proofs.ScriptLooks.{refused_looks}
use Rattle.dc_script_turns.proofs.ScriptMakes.{by_pass, enters_now, held_now, lawful_now, makes_script, quiet_now}
use Rattle.dc_script_turns.proofs.ScriptSteps.{acts_did, begun, stays}
use Rattle.dc_script_turns.proofs.ScriptEntries.{plain_at}
use Rattle.dc_base.specs.declared.commands.ScriptLine.TheVariants as line
use Rattle.dc_script_turns.proofs.posts.refuse.Goals as goal

pub commit-ticket-requires-clause-actor : goal.commit-ticket-requires-clause-actor
commit-ticket-requires-clause-actor g c κs within =
    let st = c.args.stage.now in let k = c.args.pass.now in let h = c.args.hand.now in
    let t = h.script in let u = c.refuse_held-entry.new.script in let e = c.refuse_held-entry.result in
    let b = begun st c.requires.opened k h c.requires.hand in
    by_pass st k t [] b h.polls action.Script (script_becomes u ∷ []) e (makes_script st k t u [] b h.polls e c.refuse_held-entry.ensures)

pub commit-ticket-requires-clause-lawful : goal.commit-ticket-requires-clause-lawful
commit-ticket-requires-clause-lawful g c κs within =
    let st = c.args.stage.now in let k = c.args.pass.now in let h = c.args.hand.now in
    let t = h.script in let u = c.refuse_held-entry.new.script in let e = c.refuse_held-entry.result in
    let b = begun st c.requires.opened k h c.requires.hand in
    lawful_now st k t [] b h.polls action.Script (script_becomes u ∷ []) e (makes_script st k t u [] b h.polls e c.refuse_held-entry.ensures)

pub commit-ticket-requires-clause-held : goal.commit-ticket-requires-clause-held
commit-ticket-requires-clause-held g c κs within =
    let st = c.args.stage.now in let k = c.args.pass.now in let h = c.args.hand.now in
    let t = h.script in let u = c.refuse_held-entry.new.script in let e = c.refuse_held-entry.result in
    let b = begun st c.requires.opened k h c.requires.hand in
    held_now st k t [] b h.polls action.Script (script_becomes u ∷ []) e (makes_script st k t u [] b h.polls e c.refuse_held-entry.ensures)
    (the_script ∷ []) (λ f. refused_looks (state_after st k.seen) t c.requires.hand.script f c.args.refusal c.requires.refused) (λ n l. l)

pub returns : goal.returns
returns g c =
    let st = c.args.stage.now in let k = c.args.pass.now in let h = c.args.hand.now in
    let t = h.script in let u = c.refuse_held-entry.new.script in let e = c.refuse_held-entry.result in
    let b = begun st c.requires.opened k h c.requires.hand in
    let l = c.commit-ticket.new.pass in
    acts_did st k l h (record h { script = u }) action.Script e c.commit-ticket.result
    (enters_now st k t [] b h.polls action.Script (script_becomes u ∷ []) e (makes_script st k t u [] b h.polls e c.refuse_held-entry.ensures)
    l c.commit-ticket.result.0 c.commit-ticket.ensures k u (stays st k t [] b) refl)
    refl c.requires.hand.polls
    (quiet_now st k t [] b h.polls action.Script (script_becomes u ∷ []) e (makes_script st k t u [] b h.polls e c.refuse_held-entry.ensures) (plain_at (state_after st k.seen) t c.requires.hand.script (line.Boot c.requires.refused.0) c.requires.refused.1.goes tt))
