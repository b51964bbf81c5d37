use Rattle.std.proofs.Common.{◌≡◌, ℕ, ◌<◌, List, Some, None, sym, ap, ◌∙◌, subst, length}
use Rattle.std.specs.Prelude.{slice_get}
use Rattle.dc_base.specs.Ahead as plain
use Rattle.dc_base.specs.ControlBlocks.{ControlBlock}
use Rattle.dc_base.specs.Effects.{Context}
use Rattle.dc_base.specs.Firing.{fire_all}
use Rattle.dc_base.specs.Policies.{pick}
use Rattle.dc_base.specs.States.{time_on}
use Rattle.dc_exec.specs.Ends.{end_seen}
use Rattle.dc_kernel.specs.Begins.{number_of, halfway_in, need_in}
use Rattle.dc_kernel.specs.Running.{Running}
use Rattle.dc_kernel.proofs.FiredParts.{fired_alike}
use Rattle.dc_kernel.proofs.Going.{going, nothing_needed, need_ahead}
use Rattle.dc_kernel.proofs.kernels.KernelDriver.need.Goals as goal

pub end_ahead-end-requires-clause-there : goal.end_ahead-end-requires-clause-there
end_ahead-end-requires-clause-there g c =
    let v = g.R.ReadyList.policy in
    let x : ControlBlock = c.self.inside.form in
    let t = c.time-time.result in
    let sound = c.self.invariant.sound in
    let fsound = c.firing_keeps_controls.ensures t x sound in
    let picked = sym (sym (ap number_of c.in-Some.is) ∙ c.pick_after.ensures) in
    let there = c.picked_is_ready.ensures v c.in-Some.d.0 (fire_all t x).control fsound picked in
    subst (λ n. c.in-Some.d.0 < n) (sym fsound.shape.code ∙ (ap (λ codes. length codes) (fired_alike t x).code ∙ sound.shape.code)) there.1

pub need_after-requires-clause-there : goal.need_after-requires-clause-there
need_after-requires-clause-there g c =
    let v = g.R.ReadyList.policy in
    let x : ControlBlock = c.self.inside.form in
    let t = c.time-time.result in
    let sound = c.self.invariant.sound in
    let fsound = c.firing_keeps_controls.ensures t x sound in
    let picked = sym (sym (ap number_of c.in-Some.is) ∙ c.pick_after.ensures) in
    let there = c.picked_is_ready.ensures v c.in-Some.d.0 (fire_all t x).control fsound picked in
    subst (λ n. c.in-Some.d.0 < n) (sym fsound.shape.code ∙ (ap (λ codes. length codes) (fired_alike t x).code ∙ sound.shape.code)) there.1

pub returns-in_default : goal.returns-in_default
returns-in_default g c =
    let v = g.R.ReadyList.policy in
    let x : ControlBlock = c.self.inside.form in
    let o = c.self.inside.clock in
    let te : c.time-time.result ≡ time_on c.args.now o = c.time-time.ensures in
    let p : None ≡ pick v (fire_all (time_on c.args.now o) x).control.dues (fire_all (time_on c.args.now o) x).control.ready = subst (λ t. None ≡ pick v (fire_all t x).control.dues (fire_all t x).control.ready) te (sym (ap number_of c.in_default.is) ∙ c.pick_after.ensures) in
    nothing_needed c.args.now c.args.quantum x o v p ∙ ap (λ (r : Running). need_in (halfway_in c.args.quantum c.args.now r)) c.self.view_is

pub returns : goal.returns
returns g c =
    let v = g.R.ReadyList.policy in
    let x : ControlBlock = c.self.inside.form in
    let o = c.self.inside.clock in
    let te : c.time-time.result ≡ time_on c.args.now o = c.time-time.ensures in
    let t = time_on c.args.now o in
    let sound = c.self.invariant.sound in
    let fsound = c.firing_keeps_controls.ensures t x sound in
    let picked : Some c.in-Some.d.0 ≡ pick v (fire_all t x).control.dues (fire_all t x).control.ready = subst (λ t. Some c.in-Some.d.0 ≡ pick v (fire_all t x).control.dues (fire_all t x).control.ready) te (sym (ap number_of c.in-Some.is) ∙ c.pick_after.ensures) in
    let there = c.picked_is_ready.ensures v c.in-Some.d.0 (fire_all t x).control fsound (sym picked) in
    let go = going c.args.now c.args.quantum x o v c.in-Some.d (sym picked) fsound there.1 in
    need_ahead c.args.now c.args.quantum x o v c.in-Some.d go (end_seen c.end_ahead-end.result) c.need_after.result
    (subst (λ t. (code : List ℕ) (k : Context) → slice_get x.parts.code c.in-Some.d.0 ≡ Some code → slice_get x.parts.contexts c.in-Some.d.0 ≡ Some k → end_seen c.end_ahead-end.result ≡ (plain.ahead t code c.args.quantum k x.parts.memory).end) te c.end_ahead-end.ensures.end)
    c.need_after.ensures
    ∙ ap (λ (r : Running). need_in (halfway_in c.args.quantum c.args.now r)) c.self.view_is
