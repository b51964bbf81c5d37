use Rattle.std.proofs.Common.{◌≡◌, [], ◌∷◌, refl, sym, subst, inl, inr}
use Rattle.dc_base.specs.declared.actions.Action.TheVariants as action
use Rattle.dc_base.specs.declared.actions.Actor.TheVariants as actor
use Rattle.dc_base.specs.Changes.{a_mailbox, mailbox}
use Rattle.dc_base.specs.Cores.{core_step}
use Rattle.dc_base.specs.States.{Script}
use Rattle.dc_base.specs.Turns.{not_enabled}
use Rattle.dc_bodies.specs.declared.posts.Posting.TheVariants as posting
use Rattle.dc_bodies.specs.Postings.{ComesTo}
use Rattle.dc_hands.specs.Machines.{number_of, state_after}
use Rattle.dc_script_turns.proofs.ScriptApart.{apart_alone, free_of}
use Rattle.dc_script_turns.proofs.ScriptEntries.{refuses_step}
use Rattle.dc_script_turns.proofs.ScriptLooks.{last_looks}
use Rattle.dc_script_turns.proofs.ScriptSteps.{acts_busy, acts_none, acts_through, begun, kept_mailbox, kept_script, misses, puts, refused_at, state_put, takes}
use Rattle.dc_hands.proofs.Seeing.{has_taken, sees_now}
use Rattle.dc_script_turns.proofs.posts.go_on_after.Goals as goal

pub take_mailbox-requires-clause-free : goal.take_mailbox-requires-clause-free
take_mailbox-requires-clause-free g c κs within =
    let st = c.args.stage.now in
    let k = c.args.pass.now in
    let h = c.args.hand.now in
    let t = h.script in
    let b = begun st c.requires.opened k h c.requires.hand in
    let n = a_mailbox c.args.last.0 in
    let far = apart_alone st n c.requires.within (λ e. cc) in
    free_of st k t n [] b far

pub returns-in-Err : goal.returns-in-Err
returns-in-Err g c =
    let st = c.args.stage.now in
    let k = c.args.pass.now in
    let h = c.args.hand.now in
    let t = h.script in
    let b = begun st c.requires.opened k h c.requires.hand in
    let n = a_mailbox c.args.last.0 in
    let far = apart_alone st n c.requires.within (λ e. cc) in
    let l = c.take_mailbox.new.pass in
    let busy = c.in-Err.busy in
    let miss = c.in-Err.ensures.busy in
    let r = misses st k t [] b l n busy miss in
    let look = last_looks (state_after st l.seen) t (kept_script st l l.seen (sees_now st l) t r.holds.stands) (λ f. h.polls) c.args.last c.args.next (c.args.command.now, c.requires.next) in
    acts_busy st k l h action.Script busy r c.requires.hand.polls
    (refused_at st k k l l t [] h.polls action.Script busy n _ r miss refl look (inr (inl refl)))

pub returns-in-Err-await_ack : goal.returns-in-Err-await_ack
returns-in-Err-await_ack g c =
    let st = c.args.stage.now in
    let k = c.args.pass.now in
    let h = c.args.hand.now in
    let t = h.script in
    let b = begun st c.requires.opened k h c.requires.hand in
    let n = a_mailbox c.args.last.0 in
    let far = apart_alone st n c.requires.within (λ e. cc) in
    let l = c.take_mailbox.new.pass in
    let m = c.in-Ok.mailbox in
    let got = c.in-Ok.ensures.got in
    let r = takes st k t [] b l n (mailbox m) got in
    let why = c.in-Err-await_ack.why in
    let q = c.put_mailbox.new.pass in
    let s = puts st k l q t n [] k.refused r far c.put_mailbox.ensures in
    let v = state_after st l.seen in
    let is = kept_script st l l.seen (sees_now st l) t r.holds.stands in
    let there = has_taken st k l n (mailbox m) got c.requires.within in
    let comes = subst (λ (f : Script). ComesTo f (posting.After c.args.last c.args.next)) (sym is) (c.args.command.now, c.requires.next) in
    let turn = refuses_step v action.Script why (c.in-Err-await_ack.ensures.waits v c.args.next comes (kept_mailbox st l l.seen (sees_now st l) c.args.last.0 m there)) h.polls in
    acts_none st k q h action.Script why s c.requires.hand.polls
    (subst (λ f. core_step f h.polls actor.Script action.Script ≡ not_enabled why) (sym (state_put st l q (number_of st n) c.put_mailbox.ensures)) turn) c.in-Err-await_ack.ensures.quiet

pub go_on_acked-requires-clause-holds : goal.go_on_acked-requires-clause-holds
go_on_acked-requires-clause-holds g c κs within =
    let st = c.args.stage.now in
    let k = c.args.pass.now in
    let h = c.args.hand.now in
    let t = h.script in
    let b = begun st c.requires.opened k h c.requires.hand in
    let n = a_mailbox c.args.last.0 in
    let far = apart_alone st n c.requires.within (λ e. cc) in
    let l = c.take_mailbox.new.pass in
    let m = c.in-Ok.mailbox in
    let got = c.in-Ok.ensures.got in
    let r = takes st k t [] b l n (mailbox m) got in
    r.holds

pub returns : goal.returns
returns g c =
    let st = c.args.stage.now in
    let k = c.args.pass.now in
    let h = c.args.hand.now in
    let t = h.script in
    let b = begun st c.requires.opened k h c.requires.hand in
    let n = a_mailbox c.args.last.0 in
    let far = apart_alone st n c.requires.within (λ e. cc) in
    let l = c.take_mailbox.new.pass in
    let m = c.in-Ok.mailbox in
    let got = c.in-Ok.ensures.got in
    let r = takes st k t [] b l n (mailbox m) got in
    acts_through st k l c.go_on_acked.new.pass h c.go_on_acked.new.hand (n ∷ []) action.Script c.go_on_acked.result r c.go_on_acked.ensures
