use Rattle.std.proofs.Common.{[], ◌∷◌, refl, sym, subst}
use Rattle.dc_base.specs.declared.actions.Action.TheVariants as action
use Rattle.dc_base.specs.Changes.{a_console, console, script_becomes, the_script}
use Rattle.dc_hands.specs.Machines.{state_after}
use Rattle.dc_script_turns.proofs.ScriptApart.{apart_alone, turn_two}
use Rattle.dc_script_turns.proofs.ScriptCounts.{counts_did, makes_await, met_what}
use Rattle.dc_script_turns.proofs.ScriptLooks.{await_looks}
use Rattle.dc_script_turns.proofs.ScriptMakes.{by_pass, enters_now, held_now, lawful_now, made_now}
use Rattle.dc_script_turns.proofs.ScriptSteps.{kept_script, leaves, stays}
use Rattle.dc_hands.proofs.Seeing.{sees_now}
use Rattle.dc_base.specs.declared.entries.Entry.{Entry}
use Rattle.dc_script_turns.specs.Scripting.{IsNoUnmet}
use Rattle.dc_script_turns.proofs.awaits.meet.Goals as goal

pub commit-ticket-requires-clause-actor : goal.commit-ticket-requires-clause-actor
commit-ticket-requires-clause-actor g c κs within =
    let st = c.args.stage.now in
    let k = c.args.pass.now in
    let h = c.args.hand.now in
    let t = h.script in
    let b = c.requires.holds in
    let n = a_console c.args.b.0 in
    let m = c.args.found in
    let there = c.requires.console in
    let u = c.met_held-entry.new.script in
    let e = c.met_held-entry.result in
    let chs = script_becomes u ∷ [] in
    let makes = makes_await st k t (n ∷ []) b c.args.b.0 m there u h.polls e c.met_held-entry.ensures.turn in
    by_pass st k t (n ∷ []) b h.polls action.Script chs e makes

pub commit-ticket-requires-clause-lawful : goal.commit-ticket-requires-clause-lawful
commit-ticket-requires-clause-lawful g c κs within =
    let st = c.args.stage.now in
    let k = c.args.pass.now in
    let h = c.args.hand.now in
    let t = h.script in
    let b = c.requires.holds in
    let n = a_console c.args.b.0 in
    let m = c.args.found in
    let there = c.requires.console in
    let u = c.met_held-entry.new.script in
    let e = c.met_held-entry.result in
    let chs = script_becomes u ∷ [] in
    let makes = makes_await st k t (n ∷ []) b c.args.b.0 m there u h.polls e c.met_held-entry.ensures.turn in
    lawful_now st k t (n ∷ []) b h.polls action.Script chs e makes

pub commit-ticket-requires-clause-held : goal.commit-ticket-requires-clause-held
commit-ticket-requires-clause-held g c κs within =
    let st = c.args.stage.now in
    let k = c.args.pass.now in
    let h = c.args.hand.now in
    let t = h.script in
    let b = c.requires.holds in
    let n = a_console c.args.b.0 in
    let m = c.args.found in
    let there = c.requires.console in
    let u = c.met_held-entry.new.script in
    let e = c.met_held-entry.result in
    let chs = script_becomes u ∷ [] in
    let makes = makes_await st k t (n ∷ []) b c.args.b.0 m there u h.polls e c.met_held-entry.ensures.turn in
    held_now st k t (n ∷ []) b h.polls action.Script chs e makes (the_script ∷ n ∷ [])
    (λ f. await_looks (state_after st k.seen) t (kept_script st k k.seen (sees_now st k) t b.stands) f c.args.b c.args.words c.args.limit c.requires.goes)
    (λ a i. turn_two a the_script n i)

pub put_console-requires-clause-held : goal.put_console-requires-clause-held
put_console-requires-clause-held g c κs within =
    let st = c.args.stage.now in
    let k = c.args.pass.now in
    let h = c.args.hand.now in
    let t = h.script in
    let b = c.requires.holds in
    let n = a_console c.args.b.0 in
    let m = c.args.found in
    let there = c.requires.console in
    let u = c.met_held-entry.new.script in
    let e = c.met_held-entry.result in
    let chs = script_becomes u ∷ [] in
    let makes = makes_await st k t (n ∷ []) b c.args.b.0 m there u h.polls e c.met_held-entry.ensures.turn in
    let p = c.commit-ticket.new.pass in
    made_now st k t (n ∷ []) b h.polls action.Script chs e makes p c.commit-ticket.result.0 c.commit-ticket.ensures n (console m) (console m) there there.stands

pub returns-clause-counts : goal.returns-clause-counts
returns-clause-counts g c =
    let st = c.args.stage.now in
    let k = c.args.pass.now in
    let h = c.args.hand.now in
    let t = h.script in
    let b = c.requires.holds in
    let n = a_console c.args.b.0 in
    let m = c.args.found in
    let there = c.requires.console in
    let u = c.met_held-entry.new.script in
    let e = c.met_held-entry.result in
    let chs = script_becomes u ∷ [] in
    let makes = makes_await st k t (n ∷ []) b c.args.b.0 m there u h.polls e c.met_held-entry.ensures.turn in
    let p = c.commit-ticket.new.pass in
    let q = c.put_console.new.pass in
    let made = enters_now st k t (n ∷ []) b h.polls action.Script chs e makes p c.commit-ticket.result.0 c.commit-ticket.ensures k u (stays st k t (n ∷ []) b) refl in
    counts_did st k q h (record { script = u; polls = c.met_held-entry.new.polls }) e c.commit-ticket.result
    (leaves st k p q u n [] h.polls action.Script e c.commit-ticket.result.0 made (apart_alone st n there.within (λ e. cc)) c.put_console.ensures) c.met_held-entry.ensures.polls

pub returns-clause-quiet : goal.returns-clause-quiet
returns-clause-quiet g c =
    let st = c.args.stage.now in
    let k = c.args.pass.now in
    let h = c.args.hand.now in
    let e = c.met_held-entry.result in
    let is = met_what st k h.script (a_console c.args.b.0 ∷ []) c.requires.holds c.args.b.0 c.args.found c.requires.console c.met_held-entry.new.script h.polls e
    c.args.b c.args.words c.args.limit refl c.met_held-entry.ensures.turn c.requires.goes c.requires.enough in
    subst (λ (x : Entry). IsNoUnmet x.what) (sym is) tt
