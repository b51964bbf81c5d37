use Rattle.std.proofs.Common.{[], ◌∷◌, refl, inl, inr}
use Rattle.dc_base.specs.declared.actions.Action.TheVariants as action
use Rattle.dc_base.specs.Changes.{a_line, line_becomes, script_becomes, the_script, wire}
use Rattle.dc_hands.specs.Machines.{state_after}
use Rattle.dc_script_turns.proofs.ScriptApart.{apart_alone, free_of, turn_two}
use Rattle.dc_script_turns.proofs.ScriptLines.{line_at, route_within}
use Rattle.dc_script_turns.proofs.ScriptLooks.{route_looks}
use Rattle.dc_script_turns.proofs.ScriptMakes.{by_pass, enters_now, held_now, lawful_now, made_now, makes_route, quiet_now}
use Rattle.dc_script_turns.proofs.ScriptSteps.{acts_busy, acts_did, begun, kept_line, kept_script, leaves, misses, refused_at, takes}
use Rattle.dc_hands.proofs.Seeing.{has_taken, sees_now}
use Rattle.dc_script_turns.proofs.ScriptEntries.{plain_at}
use Rattle.dc_base.specs.declared.commands.ScriptLine.TheVariants as line
use Rattle.dc_script_turns.proofs.commands.route.Goals as goal

pub take_line-requires-clause-within : goal.take_line-requires-clause-within
take_line-requires-clause-within g c κs within =
    let st = c.args.stage.now in
    let k = c.args.pass.now in
    let h = c.args.hand.now in
    let t = h.script in
    let b = begun st c.requires.opened k h c.requires.hand in
    let n = a_line c.args.l.0 in
    let w = route_within st c.requires.opened k c.requires.hand.lawful t c.requires.hand.script c.args.l c.args.core c.requires.goes in
    let far = apart_alone st n w (λ e. cc) in
    w

pub take_line-requires-clause-free : goal.take_line-requires-clause-free
take_line-requires-clause-free g c κs within =
    let st = c.args.stage.now in
    let k = c.args.pass.now in
    let h = c.args.hand.now in
    let t = h.script in
    let b = begun st c.requires.opened k h c.requires.hand in
    let n = a_line c.args.l.0 in
    let w = route_within st c.requires.opened k c.requires.hand.lawful t c.requires.hand.script c.args.l c.args.core c.requires.goes in
    let far = apart_alone st n w (λ e. cc) in
    free_of st k t n [] b far

pub returns-in-Err : goal.returns-in-Err
returns-in-Err g c =
    let st = c.args.stage.now in
    let k = c.args.pass.now in
    let h = c.args.hand.now in
    let t = h.script in
    let b = begun st c.requires.opened k h c.requires.hand in
    let n = a_line c.args.l.0 in
    let l = c.take_line.new.pass in
    let busy = c.in-Err.busy in
    let miss = c.in-Err.ensures.busy in
    let r = misses st k t [] b l n busy miss in
    acts_busy st k l h action.Script busy r c.requires.hand.polls
    (refused_at st k k l l t [] h.polls action.Script busy n (the_script ∷ n ∷ []) r miss refl (route_looks (state_after st l.seen) t (kept_script st l l.seen (sees_now st l) t r.holds.stands) (λ f. h.polls) c.args.l c.args.core c.requires.goes) (inr (inl refl)))

pub commit-ticket-requires-clause-actor : goal.commit-ticket-requires-clause-actor
commit-ticket-requires-clause-actor g c κs within =
    let st = c.args.stage.now in
    let k = c.args.pass.now in
    let h = c.args.hand.now in
    let t = h.script in
    let b = begun st c.requires.opened k h c.requires.hand in
    let n = a_line c.args.l.0 in
    let w = route_within st c.requires.opened k c.requires.hand.lawful t c.requires.hand.script c.args.l c.args.core c.requires.goes in
    let far = apart_alone st n w (λ e. cc) in
    let l = c.take_line.new.pass in
    let m = c.in-Ok.wire in
    let got = c.in-Ok.ensures.got in
    let r = takes st k t [] b l n (wire m) got in
    let there = has_taken st k l n (wire m) got w in
    let u = c.route_held-entry.new.script in
    let x = c.route_held-entry.new.wire in
    let e = c.route_held-entry.result in
    let chs = line_becomes c.args.l.0 x ∷ script_becomes u ∷ [] in
    let makes = makes_route st l t u (n ∷ []) r.holds h.polls e c.args.l.0 m x there c.route_held-entry.ensures in
    by_pass st l t (n ∷ []) r.holds h.polls action.Script chs e makes

pub commit-ticket-requires-clause-lawful : goal.commit-ticket-requires-clause-lawful
commit-ticket-requires-clause-lawful g c κs within =
    let st = c.args.stage.now in
    let k = c.args.pass.now in
    let h = c.args.hand.now in
    let t = h.script in
    let b = begun st c.requires.opened k h c.requires.hand in
    let n = a_line c.args.l.0 in
    let w = route_within st c.requires.opened k c.requires.hand.lawful t c.requires.hand.script c.args.l c.args.core c.requires.goes in
    let far = apart_alone st n w (λ e. cc) in
    let l = c.take_line.new.pass in
    let m = c.in-Ok.wire in
    let got = c.in-Ok.ensures.got in
    let r = takes st k t [] b l n (wire m) got in
    let there = has_taken st k l n (wire m) got w in
    let u = c.route_held-entry.new.script in
    let x = c.route_held-entry.new.wire in
    let e = c.route_held-entry.result in
    let chs = line_becomes c.args.l.0 x ∷ script_becomes u ∷ [] in
    let makes = makes_route st l t u (n ∷ []) r.holds h.polls e c.args.l.0 m x there c.route_held-entry.ensures in
    lawful_now st l t (n ∷ []) r.holds h.polls action.Script chs e makes

pub commit-ticket-requires-clause-held : goal.commit-ticket-requires-clause-held
commit-ticket-requires-clause-held g c κs within =
    let st = c.args.stage.now in
    let k = c.args.pass.now in
    let h = c.args.hand.now in
    let t = h.script in
    let b = begun st c.requires.opened k h c.requires.hand in
    let n = a_line c.args.l.0 in
    let w = route_within st c.requires.opened k c.requires.hand.lawful t c.requires.hand.script c.args.l c.args.core c.requires.goes in
    let far = apart_alone st n w (λ e. cc) in
    let l = c.take_line.new.pass in
    let m = c.in-Ok.wire in
    let got = c.in-Ok.ensures.got in
    let r = takes st k t [] b l n (wire m) got in
    let there = has_taken st k l n (wire m) got w in
    let u = c.route_held-entry.new.script in
    let x = c.route_held-entry.new.wire in
    let e = c.route_held-entry.result in
    let chs = line_becomes c.args.l.0 x ∷ script_becomes u ∷ [] in
    let makes = makes_route st l t u (n ∷ []) r.holds h.polls e c.args.l.0 m x there c.route_held-entry.ensures in
    held_now st l t (n ∷ []) r.holds h.polls action.Script chs e makes (the_script ∷ n ∷ [])
    (λ f. route_looks (state_after st l.seen) t (kept_script st l l.seen (sees_now st l) t r.holds.stands) f c.args.l c.args.core c.requires.goes)
    (λ a i. turn_two a the_script n i)

pub put_line-requires-clause-held : goal.put_line-requires-clause-held
put_line-requires-clause-held g c κs within =
    let st = c.args.stage.now in
    let k = c.args.pass.now in
    let h = c.args.hand.now in
    let t = h.script in
    let b = begun st c.requires.opened k h c.requires.hand in
    let n = a_line c.args.l.0 in
    let w = route_within st c.requires.opened k c.requires.hand.lawful t c.requires.hand.script c.args.l c.args.core c.requires.goes in
    let far = apart_alone st n w (λ e. cc) in
    let l = c.take_line.new.pass in
    let m = c.in-Ok.wire in
    let got = c.in-Ok.ensures.got in
    let r = takes st k t [] b l n (wire m) got in
    let there = has_taken st k l n (wire m) got w in
    let u = c.route_held-entry.new.script in
    let x = c.route_held-entry.new.wire in
    let e = c.route_held-entry.result in
    let chs = line_becomes c.args.l.0 x ∷ script_becomes u ∷ [] in
    let makes = makes_route st l t u (n ∷ []) r.holds h.polls e c.args.l.0 m x there c.route_held-entry.ensures in
    let p = c.commit-ticket.new.pass in
    made_now st l t (n ∷ []) r.holds h.polls action.Script chs e makes p c.commit-ticket.result.0 c.commit-ticket.ensures n (wire m) (wire x) there
    (line_at (state_after st l.seen) u c.args.l.0 m x (kept_line st l l.seen (sees_now st l) c.args.l.0 m there))

pub returns : goal.returns
returns g c =
    let st = c.args.stage.now in
    let k = c.args.pass.now in
    let h = c.args.hand.now in
    let t = h.script in
    let b = begun st c.requires.opened k h c.requires.hand in
    let n = a_line c.args.l.0 in
    let w = route_within st c.requires.opened k c.requires.hand.lawful t c.requires.hand.script c.args.l c.args.core c.requires.goes in
    let far = apart_alone st n w (λ e. cc) in
    let l = c.take_line.new.pass in
    let m = c.in-Ok.wire in
    let got = c.in-Ok.ensures.got in
    let r = takes st k t [] b l n (wire m) got in
    let there = has_taken st k l n (wire m) got w in
    let u = c.route_held-entry.new.script in
    let x = c.route_held-entry.new.wire in
    let e = c.route_held-entry.result in
    let chs = line_becomes c.args.l.0 x ∷ script_becomes u ∷ [] in
    let makes = makes_route st l t u (n ∷ []) r.holds h.polls e c.args.l.0 m x there c.route_held-entry.ensures in
    let p = c.commit-ticket.new.pass in
    let q = c.put_line.new.pass in
    let made = enters_now st l t (n ∷ []) r.holds h.polls action.Script chs e makes p c.commit-ticket.result.0 c.commit-ticket.ensures k u r refl in
    acts_did st k q h (record h { script = u }) action.Script e c.commit-ticket.result
    (leaves st k p q u n [] h.polls action.Script e c.commit-ticket.result.0 made far c.put_line.ensures) refl c.requires.hand.polls
    (quiet_now st l t (n ∷ []) r.holds h.polls action.Script chs e makes (plain_at (state_after st l.seen) t (kept_script st l l.seen (sees_now st l) t r.holds.stands) (line.Route c.args.l c.args.core) c.requires.goes tt))
