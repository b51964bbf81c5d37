use Rattle.std.proofs.Common.{◌≡◌, [], ◌∷◌, refl, sym, subst, inl, inr}
use Rattle.dc_base.specs.declared.actions.Action.TheVariants as action
use Rattle.dc_base.specs.declared.actions.Actor.TheVariants as actor
use Rattle.dc_base.specs.Changes.{a_console, console, script_becomes, the_script}
use Rattle.dc_base.specs.Cores.{core_step}
use Rattle.dc_base.specs.Turns.{not_enabled}
use Rattle.dc_hands.specs.Machines.{number_of, state_after}
use Rattle.dc_script_turns.proofs.ScriptApart.{apart_alone, free_of, turn_two}
use Rattle.dc_script_turns.proofs.ScriptCounts.{counts_busy, counts_did, counts_none, makes_await, polls_none}
use Rattle.dc_script_turns.proofs.ScriptLines.{await_limit, await_within}
use Rattle.dc_script_turns.proofs.ScriptLooks.{await_looks}
use Rattle.dc_script_turns.proofs.ScriptMakes.{by_pass, enters_now, held_now, lawful_now, made_now}
use Rattle.dc_script_turns.proofs.ScriptSteps.{acts_busy, begun, kept_script, leaves, misses, puts, refused_at, state_put, takes}
use Rattle.dc_hands.proofs.Seeing.{has_taken, sees_now}
use Rattle.dc_script_turns.proofs.awaits.await_turn.Goals as goal

pub take_console-requires-clause-within : goal.take_console-requires-clause-within
take_console-requires-clause-within g c κs within =
    let st = c.args.stage.now in
    let k = c.args.pass.now in
    let h = c.args.hand.now in
    let t = h.script in
    let b = begun st c.requires.opened k h c.requires.hand in
    let n = a_console c.args.b.0 in
    let w = await_within st c.requires.opened k c.requires.hand.lawful t c.requires.hand.script c.args.b c.args.words c.args.limit c.requires.goes in
    w

pub take_console-requires-clause-free : goal.take_console-requires-clause-free
take_console-requires-clause-free g c κs within =
    let st = c.args.stage.now in
    let k = c.args.pass.now in
    let h = c.args.hand.now in
    let t = h.script in
    let b = begun st c.requires.opened k h c.requires.hand in
    let n = a_console c.args.b.0 in
    let w = await_within st c.requires.opened k c.requires.hand.lawful t c.requires.hand.script c.args.b c.args.words c.args.limit c.requires.goes in
    let far = apart_alone st n w (λ e. cc) in
    free_of st k t n [] b far

pub returns-in-Err : goal.returns-in-Err
returns-in-Err g c =
    let st = c.args.stage.now in
    let k = c.args.pass.now in
    let h = c.args.hand.now in
    let t = h.script in
    let b = begun st c.requires.opened k h c.requires.hand in
    let n = a_console c.args.b.0 in
    let w = await_within st c.requires.opened k c.requires.hand.lawful t c.requires.hand.script c.args.b c.args.words c.args.limit c.requires.goes in
    let far = apart_alone st n w (λ e. cc) in
    let l = c.take_console.new.pass in
    let busy = c.in-Err.busy in
    let miss = c.in-Err.ensures.busy in
    let r = misses st k t [] b l n busy miss in
    let acts = acts_busy st k l h action.Script busy r c.requires.hand.polls
    (refused_at st k k l l t [] h.polls action.Script busy n (the_script ∷ n ∷ []) r miss refl (await_looks (state_after st l.seen) t (kept_script st l l.seen (sees_now st l) t r.holds.stands) (λ f. h.polls) c.args.b c.args.words c.args.limit c.requires.goes) (inr (inl refl))) in
    counts_busy st k l h busy acts

pub await_held-requires-clause-limit : goal.await_held-requires-clause-limit
await_held-requires-clause-limit g c =
    let st = c.args.stage.now in
    let k = c.args.pass.now in
    let h = c.args.hand.now in
    let t = h.script in
    await_limit st c.requires.opened k c.requires.hand.lawful t c.requires.hand.script c.args.b c.args.words c.args.limit c.requires.goes

pub commit-ticket-requires-clause-actor : goal.commit-ticket-requires-clause-actor
commit-ticket-requires-clause-actor g c κs within =
    let st = c.args.stage.now in
    let k = c.args.pass.now in
    let h = c.args.hand.now in
    let t = h.script in
    let b = begun st c.requires.opened k h c.requires.hand in
    let n = a_console c.args.b.0 in
    let w = await_within st c.requires.opened k c.requires.hand.lawful t c.requires.hand.script c.args.b c.args.words c.args.limit c.requires.goes in
    let far = apart_alone st n w (λ e. cc) in
    let l = c.take_console.new.pass in
    let m = c.in-Ok.console in
    let got = c.in-Ok.ensures.got in
    let r = takes st k t [] b l n (console m) got in
    let there = has_taken st k l n (console m) got w in
    let u = c.await_held.new.script in
    let e = c.in-Ok-await_held.entry in
    let chs = script_becomes u ∷ [] in
    let makes = makes_await st l t (n ∷ []) r.holds c.args.b.0 m there u h.polls e c.in-Ok-await_held.ensures.over.0 in
    by_pass st l t (n ∷ []) r.holds h.polls action.Script chs e makes

pub commit-ticket-requires-clause-lawful : goal.commit-ticket-requires-clause-lawful
commit-ticket-requires-clause-lawful g c κs within =
    let st = c.args.stage.now in
    let k = c.args.pass.now in
    let h = c.args.hand.now in
    let t = h.script in
    let b = begun st c.requires.opened k h c.requires.hand in
    let n = a_console c.args.b.0 in
    let w = await_within st c.requires.opened k c.requires.hand.lawful t c.requires.hand.script c.args.b c.args.words c.args.limit c.requires.goes in
    let far = apart_alone st n w (λ e. cc) in
    let l = c.take_console.new.pass in
    let m = c.in-Ok.console in
    let got = c.in-Ok.ensures.got in
    let r = takes st k t [] b l n (console m) got in
    let there = has_taken st k l n (console m) got w in
    let u = c.await_held.new.script in
    let e = c.in-Ok-await_held.entry in
    let chs = script_becomes u ∷ [] in
    let makes = makes_await st l t (n ∷ []) r.holds c.args.b.0 m there u h.polls e c.in-Ok-await_held.ensures.over.0 in
    lawful_now st l t (n ∷ []) r.holds h.polls action.Script chs e makes

pub commit-ticket-requires-clause-held : goal.commit-ticket-requires-clause-held
commit-ticket-requires-clause-held g c κs within =
    let st = c.args.stage.now in
    let k = c.args.pass.now in
    let h = c.args.hand.now in
    let t = h.script in
    let b = begun st c.requires.opened k h c.requires.hand in
    let n = a_console c.args.b.0 in
    let w = await_within st c.requires.opened k c.requires.hand.lawful t c.requires.hand.script c.args.b c.args.words c.args.limit c.requires.goes in
    let far = apart_alone st n w (λ e. cc) in
    let l = c.take_console.new.pass in
    let m = c.in-Ok.console in
    let got = c.in-Ok.ensures.got in
    let r = takes st k t [] b l n (console m) got in
    let there = has_taken st k l n (console m) got w in
    let u = c.await_held.new.script in
    let e = c.in-Ok-await_held.entry in
    let chs = script_becomes u ∷ [] in
    let makes = makes_await st l t (n ∷ []) r.holds c.args.b.0 m there u h.polls e c.in-Ok-await_held.ensures.over.0 in
    held_now st l t (n ∷ []) r.holds h.polls action.Script chs e makes (the_script ∷ n ∷ [])
    (λ f. await_looks (state_after st l.seen) t (kept_script st l l.seen (sees_now st l) t r.holds.stands) f c.args.b c.args.words c.args.limit c.requires.goes)
    (λ a i. turn_two a the_script n i)

pub put_console-requires-clause-held : goal.put_console-requires-clause-held
put_console-requires-clause-held g c κs within =
    let st = c.args.stage.now in
    let k = c.args.pass.now in
    let h = c.args.hand.now in
    let t = h.script in
    let b = begun st c.requires.opened k h c.requires.hand in
    let n = a_console c.args.b.0 in
    let w = await_within st c.requires.opened k c.requires.hand.lawful t c.requires.hand.script c.args.b c.args.words c.args.limit c.requires.goes in
    let far = apart_alone st n w (λ e. cc) in
    let l = c.take_console.new.pass in
    let m = c.in-Ok.console in
    let got = c.in-Ok.ensures.got in
    let r = takes st k t [] b l n (console m) got in
    let there = has_taken st k l n (console m) got w in
    let u = c.await_held.new.script in
    let e = c.in-Ok-await_held.entry in
    let chs = script_becomes u ∷ [] in
    let makes = makes_await st l t (n ∷ []) r.holds c.args.b.0 m there u h.polls e c.in-Ok-await_held.ensures.over.0 in
    let p = c.commit-ticket.new.pass in
    made_now st l t (n ∷ []) r.holds h.polls action.Script chs e makes p c.commit-ticket.result.0 c.commit-ticket.ensures n (console m) (console m) there there.stands

pub put_console-requires-in-Err-await_held-clause-held : goal.put_console-requires-in-Err-await_held-clause-held
put_console-requires-in-Err-await_held-clause-held g c κs within =
    let st = c.args.stage.now in
    let k = c.args.pass.now in
    let h = c.args.hand.now in
    let t = h.script in
    let b = begun st c.requires.opened k h c.requires.hand in
    let n = a_console c.args.b.0 in
    let w = await_within st c.requires.opened k c.requires.hand.lawful t c.requires.hand.script c.args.b c.args.words c.args.limit c.requires.goes in
    let far = apart_alone st n w (λ e. cc) in
    let l = c.take_console.new.pass in
    let m = c.in-Ok.console in
    let got = c.in-Ok.ensures.got in
    let r = takes st k t [] b l n (console m) got in
    let there = has_taken st k l n (console m) got w in
    there

pub returns-in-Ok-await_held : goal.returns-in-Ok-await_held
returns-in-Ok-await_held g c =
    let st = c.args.stage.now in
    let k = c.args.pass.now in
    let h = c.args.hand.now in
    let t = h.script in
    let b = begun st c.requires.opened k h c.requires.hand in
    let n = a_console c.args.b.0 in
    let w = await_within st c.requires.opened k c.requires.hand.lawful t c.requires.hand.script c.args.b c.args.words c.args.limit c.requires.goes in
    let far = apart_alone st n w (λ e. cc) in
    let l = c.take_console.new.pass in
    let m = c.in-Ok.console in
    let got = c.in-Ok.ensures.got in
    let r = takes st k t [] b l n (console m) got in
    let there = has_taken st k l n (console m) got w in
    let u = c.await_held.new.script in
    let e = c.in-Ok-await_held.entry in
    let chs = script_becomes u ∷ [] in
    let makes = makes_await st l t (n ∷ []) r.holds c.args.b.0 m there u h.polls e c.in-Ok-await_held.ensures.over.0 in
    let p = c.commit-ticket.new.pass in
    let q = c.put_console.new.pass in
    let made = enters_now st l t (n ∷ []) r.holds h.polls action.Script chs e makes p c.commit-ticket.result.0 c.commit-ticket.ensures k u r refl in
    counts_did st k q h (record { script = u; polls = c.await_held.new.polls }) e c.commit-ticket.result
    (leaves st k p q u n [] h.polls action.Script e c.commit-ticket.result.0 made far c.put_console.ensures) c.in-Ok-await_held.ensures.over.1

pub returns-in-Err-await_held : goal.returns-in-Err-await_held
returns-in-Err-await_held g c =
    let st = c.args.stage.now in
    let k = c.args.pass.now in
    let h = c.args.hand.now in
    let t = h.script in
    let b = begun st c.requires.opened k h c.requires.hand in
    let n = a_console c.args.b.0 in
    let w = await_within st c.requires.opened k c.requires.hand.lawful t c.requires.hand.script c.args.b c.args.words c.args.limit c.requires.goes in
    let far = apart_alone st n w (λ e. cc) in
    let l = c.take_console.new.pass in
    let m = c.in-Ok.console in
    let got = c.in-Ok.ensures.got in
    let r = takes st k t [] b l n (console m) got in
    let there = has_taken st k l n (console m) got w in
    let why = c.in-Err-await_held.why in
    let q = c.put_console-in-Err-await_held.new.pass in
    let s = puts st k l q t n [] k.refused r far c.put_console-in-Err-await_held.ensures in
    let poll = c.in-Err-await_held.ensures.poll in
    let turn = polls_none st l t (n ∷ []) r.holds c.args.b.0 m there h.polls why poll.0 in
    counts_none st k q h (record { script = c.await_held.new.script; polls = c.await_held.new.polls }) why s poll.2
    (subst (λ f. core_step f h.polls actor.Script action.Script ≡ not_enabled why) (sym (state_put st l q (number_of st n) c.put_console-in-Err-await_held.ensures)) turn) poll.1 c.await_held.ensures.few
