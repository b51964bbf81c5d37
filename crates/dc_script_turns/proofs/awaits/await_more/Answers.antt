use Rattle.std.proofs.Common.{arith, ◌<◌, ◌≡◌, [], ◌∷◌, Some, refl, sym, subst, inl, inr}
use Rattle.dc_base.specs.declared.actions.Action.TheVariants as action
use Rattle.std.specs.Prelude.{slice_get}
use Rattle.std.proofs.lemmas.Bool.Decides.{nat_tests}
use Rattle.dc_base.specs.Changes.{a_console, console, the_script}
use Rattle.dc_base.specs.States.{State}
use Rattle.dc_hands.specs.declared.answers.Turned.TheVariants as turned
use Rattle.dc_hands.specs.Machines.{number_of, state_after}
use Rattle.dc_script_turns.proofs.ScriptApart.{apart_alone, free_of}
use Rattle.dc_script_turns.proofs.ScriptCounts.{counts_busy, counts_through, found_few, polled}
use Rattle.dc_script_turns.proofs.ScriptLines.{await_limit, await_within}
use Rattle.dc_script_turns.proofs.ScriptLooks.{await_looks}
use Rattle.dc_script_turns.proofs.ScriptSteps.{acts_busy, begun, kept_console, kept_script, misses, puts, refused_at, state_put, takes}
use Rattle.dc_hands.proofs.Seeing.{has_taken, sees_now}
use Rattle.dc_script_turns.proofs.awaits.await_more.Goals as goal

pub take_console-requires-clause-within : goal.take_console-requires-clause-within
take_console-requires-clause-within g c κs within =
    let st = c.args.stage.now in
    let k = c.args.pass.now in
    let h = c.args.hand.now in
    let t = h.script in
    let b = begun st c.requires.opened k h c.requires.hand in
    let n = a_console c.args.b.0 in
    let w = await_within st c.requires.opened k c.requires.hand.lawful t c.requires.hand.script c.args.b c.args.words c.args.limit c.requires.goes in
    w

pub take_console-requires-clause-free : goal.take_console-requires-clause-free
take_console-requires-clause-free g c κs within =
    let st = c.args.stage.now in
    let k = c.args.pass.now in
    let h = c.args.hand.now in
    let t = h.script in
    let b = begun st c.requires.opened k h c.requires.hand in
    let n = a_console c.args.b.0 in
    let w = await_within st c.requires.opened k c.requires.hand.lawful t c.requires.hand.script c.args.b c.args.words c.args.limit c.requires.goes in
    let far = apart_alone st n w (λ e. cc) in
    free_of st k t n [] b far

pub returns-in-Err : goal.returns-in-Err
returns-in-Err g c =
    let st = c.args.stage.now in
    let k = c.args.pass.now in
    let h = c.args.hand.now in
    let t = h.script in
    let b = begun st c.requires.opened k h c.requires.hand in
    let n = a_console c.args.b.0 in
    let w = await_within st c.requires.opened k c.requires.hand.lawful t c.requires.hand.script c.args.b c.args.words c.args.limit c.requires.goes in
    let far = apart_alone st n w (λ e. cc) in
    let l = c.take_console.new.pass in
    let busy = c.in-Err.busy in
    let miss = c.in-Err.ensures.busy in
    let r = misses st k t [] b l n busy miss in
    let acts = acts_busy st k l h action.Script busy r c.requires.hand.polls
    (refused_at st k k l l t [] h.polls action.Script busy n (the_script ∷ n ∷ []) r miss refl (await_looks (state_after st l.seen) t (kept_script st l l.seen (sees_now st l) t r.holds.stands) (λ f. h.polls) c.args.b c.args.words c.args.limit c.requires.goes) (inr (inl refl))) in
    polled st k l h h (turned.Busy busy) c.args.most tt (counts_busy st k l h busy acts)

pub meet-requires-clause-holds : goal.meet-requires-clause-holds
meet-requires-clause-holds g c κs within =
    let st = c.args.stage.now in
    let k = c.args.pass.now in
    let h = c.args.hand.now in
    let t = h.script in
    let b = begun st c.requires.opened k h c.requires.hand in
    let n = a_console c.args.b.0 in
    let w = await_within st c.requires.opened k c.requires.hand.lawful t c.requires.hand.script c.args.b c.args.words c.args.limit c.requires.goes in
    let far = apart_alone st n w (λ e. cc) in
    let l = c.take_console.new.pass in
    let m = c.in-Ok.console in
    let got = c.in-Ok.ensures.got in
    let r = takes st k t [] b l n (console m) got in
    let there = has_taken st k l n (console m) got w in
    r.holds

pub meet-requires-clause-console : goal.meet-requires-clause-console
meet-requires-clause-console g c κs within =
    let st = c.args.stage.now in
    let k = c.args.pass.now in
    let h = c.args.hand.now in
    let t = h.script in
    let b = begun st c.requires.opened k h c.requires.hand in
    let n = a_console c.args.b.0 in
    let w = await_within st c.requires.opened k c.requires.hand.lawful t c.requires.hand.script c.args.b c.args.words c.args.limit c.requires.goes in
    let far = apart_alone st n w (λ e. cc) in
    let l = c.take_console.new.pass in
    let m = c.in-Ok.console in
    let got = c.in-Ok.ensures.got in
    let r = takes st k t [] b l n (console m) got in
    let there = has_taken st k l n (console m) got w in
    there

pub returns-then-seen-words : goal.returns-then-seen-words
returns-then-seen-words g c =
    let st = c.args.stage.now in
    let k = c.args.pass.now in
    let h = c.args.hand.now in
    let t = h.script in
    let b = begun st c.requires.opened k h c.requires.hand in
    let n = a_console c.args.b.0 in
    let w = await_within st c.requires.opened k c.requires.hand.lawful t c.requires.hand.script c.args.b c.args.words c.args.limit c.requires.goes in
    let far = apart_alone st n w (λ e. cc) in
    let l = c.take_console.new.pass in
    let m = c.in-Ok.console in
    let got = c.in-Ok.ensures.got in
    let r = takes st k t [] b l n (console m) got in
    let there = has_taken st k l n (console m) got w in
    polled st k c.meet.new.pass h c.meet.new.hand c.meet.result c.args.most c.meet.ensures.quiet
    (counts_through st k l c.meet.new.pass h c.meet.new.hand (n ∷ []) action.Script c.meet.result r c.meet.ensures.counts)

pub put_console-requires-clause-held : goal.put_console-requires-clause-held
put_console-requires-clause-held g c κs within =
    let st = c.args.stage.now in
    let k = c.args.pass.now in
    let h = c.args.hand.now in
    let t = h.script in
    let b = begun st c.requires.opened k h c.requires.hand in
    let n = a_console c.args.b.0 in
    let w = await_within st c.requires.opened k c.requires.hand.lawful t c.requires.hand.script c.args.b c.args.words c.args.limit c.requires.goes in
    let far = apart_alone st n w (λ e. cc) in
    let l = c.take_console.new.pass in
    let m = c.in-Ok.console in
    let got = c.in-Ok.ensures.got in
    let r = takes st k t [] b l n (console m) got in
    let there = has_taken st k l n (console m) got w in
    there

pub returns : goal.returns
returns g c =
    let st = c.args.stage.now in
    let k = c.args.pass.now in
    let h = c.args.hand.now in
    let t = h.script in
    let b = begun st c.requires.opened k h c.requires.hand in
    let n = a_console c.args.b.0 in
    let w = await_within st c.requires.opened k c.requires.hand.lawful t c.requires.hand.script c.args.b c.args.words c.args.limit c.requires.goes in
    let far = apart_alone st n w (λ e. cc) in
    let l = c.take_console.new.pass in
    let m = c.in-Ok.console in
    let got = c.in-Ok.ensures.got in
    let r = takes st k t [] b l n (console m) got in
    let there = has_taken st k l n (console m) got w in
    let q = c.put_console.new.pass in
    let s = puts st k l q t n [] k.refused r far c.put_console.ensures in
    let seen = c.len-seen.result in
    let value = c.len-seen.ensures.value in
    let fewer = c.if-seen-words.false in
    let less : seen < c.args.words = grind (arith, nat_tests) in
    let here = subst (λ (f : State). slice_get f.consoles c.args.b.0 ≡ Some m) (sym (state_put st l q (number_of st n) c.put_console.ensures)) (kept_console st l l.seen (sees_now st l) c.args.b.0 m there) in
    found_few st k q h c.args.b c.args.words c.args.limit c.args.most seen c.more_polls-hand.result c.requires.goes s m here value less c.more_polls-hand.ensures c.requires.hand.polls
    (await_limit st c.requires.opened k c.requires.hand.lawful t c.requires.hand.script c.args.b c.args.words c.args.limit c.requires.goes)
