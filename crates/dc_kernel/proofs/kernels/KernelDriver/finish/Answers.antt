use Rattle.std.proofs.Common.{◌≡◌, ◌-◌, ◌<◌, ◌^◌, Some, None, sym, ap, ◌∙◌, subst}
use Rattle.dc_base.specs.declared.calls.End.TheVariants as end
use Rattle.dc_base.specs.ControlBlocks.{ControlBlock}
use Rattle.dc_base.specs.Firing.{Fired, fire_all}
use Rattle.dc_base.specs.Policies.{pick}
use Rattle.dc_base.specs.Slices.{Sliced, without_ready, need_of}
use Rattle.dc_base.specs.States.{time_on}
use Rattle.dc_base.specs.Words.{Each}
use Rattle.dc_block_sound.specs.SoundControls.{IsSoundControl}
use Rattle.dc_calls.specs.Outsides.{outside_seen, Fits}
use Rattle.dc_calls.specs.Serves.{IsRunning}
use Rattle.dc_calls.specs.Slices.{half_of}
use Rattle.dc_kernel.specs.Begins.{number_of}
use Rattle.dc_kernel.specs.Done.{done_empty, told}
use Rattle.dc_kernel.specs.Running.{Running}
use Rattle.dc_kernel.proofs.Going.{going, part, half, within_64, need_half, plain_ran, sliced, done_going, nothing_needed, nothing_ran, done_nothing, suits, nothing_fits}
use Rattle.dc_kernel.proofs.kernels.KernelDriver.finish.Goals as goal

pub returns-in_default-clause-done : goal.returns-in_default-clause-done
returns-in_default-clause-done g c = λ q before within h.
    let b = c.args.begun.now in
    let z : ControlBlock = c.args.self.now.control in
    let x : ControlBlock = before.control in
    let o = before.offset in
    let v = before.version in
    let t = time_on c.args.now o in
    let p : None ≡ pick v (fire_all t x).control.dues (fire_all t x).control.ready = sym (ap number_of c.in_default.is) ∙ h.disp in
    let out = nothing_fits c.args.outside.now (subst (λ n. Fits n c.args.outside.now) (h.need ∙ sym (nothing_needed c.args.now q x o v p)) c.requires.outside) in
    let ye : z ≡ (fire_all t x).control = ap (λ (r : Running). r.control) h.block ∙ nothing_ran c.args.now q x o v p in
    let fe : record { control = z; count = b.fired } ≡ fire_all t x = λ j. record { control = ye j; count = h.count j } in
    ap (λ s. Some (told z s (outside_seen c.args.outside.now))) c.empty.ensures
    ∙ (ap (λ u. Some (told z (record { disp = None; fired = b.fired; ran = 0; end = end.Empty; advance = 1 }) u)) out
    ∙ (ap (λ (f : Fired). Some (done_empty f)) fe
    ∙ done_nothing c.args.now q x o v p c.args.core.0 c.args.block.0 c.args.outside.now))

pub end_slice-requires-clause-running : goal.end_slice-requires-clause-running
end_slice-requires-clause-running g c =
    let q = c.requires.begun.0 in
    let before : Running = c.requires.begun.1 in
    let within = c.requires.begun.2 in
    let h = c.requires.begun.3 in
    let b = c.args.begun.now in
    let z : ControlBlock = c.self.inside.form in
    let x : ControlBlock = before.control in
    let o = before.offset in
    let v = before.version in
    let t = time_on c.args.now o in
    let ze : z ≡ c.args.self.now.control = ap (λ (r : Running). r.control) c.self.view_is in
    let d = c.in-Some.d in
    let fsound = c.firing_keeps_controls.ensures t x h.sound in
    let pa : pick v (fire_all t x).control.dues (fire_all t x).control.ready ≡ Some d.0 = sym h.disp ∙ ap number_of c.in-Some.is in
    let there = c.picked_is_ready.ensures v d.0 (fire_all t x).control fsound pa in
    let go = going c.args.now q x o v d pa fsound there.1 in
    let y = c.aheads_keep_controls.ensures t q v d.0 x go.code go.context h.sound go.picked go.code_at go.context_at in
    subst (λ y. IsRunning d.0 (without_ready d.0 y)) (sym (ze ∙ (plain_ran c.args.now q x o v d go c.args.self.now b h).control))
    (record { rest = y; state = there.0; out = c.ready_stand_once.ensures.taken (fire_all t x).control fsound.ready d.0 })

pub end_slice-requires-clause-dues : goal.end_slice-requires-clause-dues
end_slice-requires-clause-dues g c =
    subst (λ (r : Running). Each r.control.dues (λ d due. due < 2 ^ 63)) (sym c.self.view_is) c.requires.dues

pub end_slice-requires-clause-timers : goal.end_slice-requires-clause-timers
end_slice-requires-clause-timers g c =
    subst (λ (r : Running). r.control.parts.next_timer < 2 ^ 32 - 1) (sym c.self.view_is) c.requires.timers

pub end_slice-requires-clause-ran : goal.end_slice-requires-clause-ran
end_slice-requires-clause-ran g c =
    let q = c.requires.begun.0 in
    let before : Running = c.requires.begun.1 in
    let within = c.requires.begun.2 in
    let h = c.requires.begun.3 in
    let b = c.args.begun.now in
    let z : ControlBlock = c.self.inside.form in
    let x : ControlBlock = before.control in
    let o = before.offset in
    let v = before.version in
    let t = time_on c.args.now o in
    let ze : z ≡ c.args.self.now.control = ap (λ (r : Running). r.control) c.self.view_is in
    let d = c.in-Some.d in
    let fsound = c.firing_keeps_controls.ensures t x h.sound in
    let pa : pick v (fire_all t x).control.dues (fire_all t x).control.ready ≡ Some d.0 = sym h.disp ∙ ap number_of c.in-Some.is in
    let there = c.picked_is_ready.ensures v d.0 (fire_all t x).control fsound pa in
    let go = going c.args.now q x o v d pa fsound there.1 in
    within_64 c.args.now q x o v d go c.args.self.now b h within.1

pub end_slice-requires-clause-proper : goal.end_slice-requires-clause-proper
end_slice-requires-clause-proper g c =
    c.requires.begun.3.proper

pub invariant_of-self : goal.invariant_of-self
invariant_of-self g c =
    let q = c.requires.begun.0 in
    let before : Running = c.requires.begun.1 in
    let within = c.requires.begun.2 in
    let h = c.requires.begun.3 in
    let b = c.args.begun.now in
    let z : ControlBlock = c.self.inside.form in
    let x : ControlBlock = before.control in
    let o = before.offset in
    let v = before.version in
    let t = time_on c.args.now o in
    let ze : z ≡ c.args.self.now.control = ap (λ (r : Running). r.control) c.self.view_is in
    let d = c.in-Some.d in
    let fsound = c.firing_keeps_controls.ensures t x h.sound in
    let pa : pick v (fire_all t x).control.dues (fire_all t x).control.ready ≡ Some d.0 = sym h.disp ∙ ap number_of c.in-Some.is in
    let there = c.picked_is_ready.ensures v d.0 (fire_all t x).control fsound pa in
    let go = going c.args.now q x o v d pa fsound there.1 in
    let te : c.time-time.result ≡ t = c.time-time.ensures ∙ ap (λ (r : Running). time_on c.args.now r.offset) (c.self.view_is ∙ h.block) in
    let slice = sliced c.args.now q x o v d go c.args.self.now b h c.time-time.result te g.R.ReadyList.policy (ap (λ (r : Running). r.version) (c.self.view_is ∙ h.block)) z ze c.args.core.0 c.args.block.0 c.end_slice.new.self c.end_slice.result c.args.outside.now c.end_slice.new.outside c.requires.outside c.end_slice.ensures.slice in
    let fits = suits (need_of (half_of t d.0 (fire_all t x).control (part c.args.now q x o v d go))) c.args.outside.now (subst (λ n. Fits n c.args.outside.now) (need_half c.args.now q x o v d go c.args.self.now b h) c.requires.outside) c.offers_are_within.ensures in
    record {
      sound = subst IsSoundControl (sym (ap (λ (s : Sliced). s.control) slice)) (c.slices_keep_controls.ensures t q c.args.core.0 c.args.block.0 v d.0 x (half_of t d.0 (fire_all t x).control (part c.args.now q x o v d go)) (outside_seen c.args.outside.now) h.sound go.picked (half c.args.now q x o v d go) fits);
      behind = c.self.invariant.behind;
      ahead = c.self.invariant.ahead;
    }

pub returns-clause-done : goal.returns-clause-done
returns-clause-done g c = λ q before within h.
    let b = c.args.begun.now in
    let z : ControlBlock = c.self.inside.form in
    let x : ControlBlock = before.control in
    let o = before.offset in
    let v = before.version in
    let t = time_on c.args.now o in
    let ze : z ≡ c.args.self.now.control = ap (λ (r : Running). r.control) c.self.view_is in
    let d = c.in-Some.d in
    let fsound = c.firing_keeps_controls.ensures t x h.sound in
    let pa : pick v (fire_all t x).control.dues (fire_all t x).control.ready ≡ Some d.0 = sym h.disp ∙ ap number_of c.in-Some.is in
    let there = c.picked_is_ready.ensures v d.0 (fire_all t x).control fsound pa in
    let go = going c.args.now q x o v d pa fsound there.1 in
    let te : c.time-time.result ≡ t = c.time-time.ensures ∙ ap (λ (r : Running). time_on c.args.now r.offset) (c.self.view_is ∙ h.block) in
    let slice = sliced c.args.now q x o v d go c.args.self.now b h c.time-time.result te g.R.ReadyList.policy (ap (λ (r : Running). r.version) (c.self.view_is ∙ h.block)) z ze c.args.core.0 c.args.block.0 c.end_slice.new.self c.end_slice.result c.args.outside.now c.end_slice.new.outside c.requires.outside c.end_slice.ensures.slice in
    done_going c.args.now q x o v d go c.args.self.now b h c.args.core.0 c.args.block.0 c.args.outside.now c.end_slice.new.outside c.end_slice.new.self c.end_slice.result slice c.end_slice.ensures.disp c.end_slice.ensures.fired
