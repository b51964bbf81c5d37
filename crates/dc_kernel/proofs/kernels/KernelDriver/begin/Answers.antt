use Rattle.std.proofs.Common.{◌≡◌, ◌<◌, Some, None, refl, sym, ap, ◌∙◌, subst, length}
use Rattle.std.specs.Prelude.{slice_get}
use Rattle.dc_base.specs.declared.calls.Need.TheVariants as needs
use Rattle.dc_base.specs.Ahead as plain
use Rattle.dc_base.specs.ControlBlocks.{ControlBlock}
use Rattle.dc_base.specs.Firing.{Fired, fire_all}
use Rattle.dc_base.specs.Policies.{pick}
use Rattle.dc_base.specs.States.{time_on}
use Rattle.dc_exec.specs.declared.ends.AheadEnd.TheVariants as end
use Rattle.dc_block_sound.specs.SoundControls.{IsSoundControl}
use Rattle.dc_calls.specs.Slices.{IsRun}
use Rattle.dc_kernel.specs.Begins.{number_of, IsBegun}
use Rattle.dc_kernel.specs.Running.{Running}
use Rattle.dc_kernel.proofs.Going.{going, nothing_needed, nothing_ran, nothing_told, begun_is, between_sound}
use Rattle.dc_kernel.proofs.kernels.KernelDriver.begin.Goals as goal

pub run_plain-plain-requires-clause-sound : goal.run_plain-plain-requires-clause-sound
run_plain-plain-requires-clause-sound g c =
    let v = g.R.ReadyList.policy in
    let q = c.args.quantum in
    let x : ControlBlock = c.self.inside.form in
    let o = c.self.inside.clock in
    let t = time_on c.args.now o in
    let y : ControlBlock = c.fire-fired.new.self in
    let fe : record { control = y; count = c.fire-fired.result } ≡ fire_all t x = c.fire-fired.ensures ∙ ap (λ t. fire_all t x) c.time-time.ensures in
    let ye : y ≡ (fire_all t x).control = ap (λ (f : Fired). f.control) fe in
    let sound = c.self.invariant.sound in
    let fsound = c.firing_keeps_controls.ensures t x sound in
    subst IsSoundControl (sym ye) fsound

pub run_plain-plain-requires-clause-there : goal.run_plain-plain-requires-clause-there
run_plain-plain-requires-clause-there g c =
    let v = g.R.ReadyList.policy in
    let q = c.args.quantum in
    let x : ControlBlock = c.self.inside.form in
    let o = c.self.inside.clock in
    let t = time_on c.args.now o in
    let y : ControlBlock = c.fire-fired.new.self in
    let fe : record { control = y; count = c.fire-fired.result } ≡ fire_all t x = c.fire-fired.ensures ∙ ap (λ t. fire_all t x) c.time-time.ensures in
    let ye : y ≡ (fire_all t x).control = ap (λ (f : Fired). f.control) fe in
    let sound = c.self.invariant.sound in
    let fsound = c.firing_keeps_controls.ensures t x sound in
    let d = c.in-Some.d in
    let ysound : IsSoundControl y = subst IsSoundControl (sym ye) fsound in
    let p : Some d.0 ≡ pick v y.dues y.ready = sym (ap number_of c.in-Some.is) ∙ c.pick.ensures in
    (c.picked_is_ready.ensures v d.0 y ysound (sym p)).1

pub need_after-need-requires-clause-there : goal.need_after-need-requires-clause-there
need_after-need-requires-clause-there g c =
    let v = g.R.ReadyList.policy in
    let q = c.args.quantum in
    let x : ControlBlock = c.self.inside.form in
    let o = c.self.inside.clock in
    let t = time_on c.args.now o in
    let y : ControlBlock = c.fire-fired.new.self in
    let fe : record { control = y; count = c.fire-fired.result } ≡ fire_all t x = c.fire-fired.ensures ∙ ap (λ t. fire_all t x) c.time-time.ensures in
    let ye : y ≡ (fire_all t x).control = ap (λ (f : Fired). f.control) fe in
    let sound = c.self.invariant.sound in
    let fsound = c.firing_keeps_controls.ensures t x sound in
    let d = c.in-Some.d in
    let ysound : IsSoundControl y = subst IsSoundControl (sym ye) fsound in
    let p : Some d.0 ≡ pick v y.dues y.ready = sym (ap number_of c.in-Some.is) ∙ c.pick.ensures in
    let pa : Some d.0 ≡ pick v (fire_all t x).control.dues (fire_all t x).control.ready = subst (λ (z : ControlBlock). Some d.0 ≡ pick v z.dues z.ready) ye p in
    let there = c.picked_is_ready.ensures v d.0 (fire_all t x).control fsound (sym pa) in
    let go = going c.args.now q x o v d (sym pa) fsound there.1 in
    let ran : IsRun d.0 y c.run_plain-plain.new.self c.run_plain-plain.result (plain.ahead t go.code q go.context y.parts.memory) =
    subst (λ t. IsRun d.0 y c.run_plain-plain.new.self c.run_plain-plain.result (plain.ahead t go.code q go.context y.parts.memory)) c.time-time.ensures
    (c.run_plain-plain.ensures.plain go.code go.context (ap (λ (z : ControlBlock). slice_get z.parts.code d.0) ye ∙ go.code_at) (ap (λ (z : ControlBlock). slice_get z.parts.contexts d.0) ye ∙ go.context_at)) in
    subst (λ (z : ControlBlock). d.0 < length z.states) (sym ran.control) (c.picked_is_ready.ensures v d.0 y ysound (sym p)).1

pub invariant_of-self : goal.invariant_of-self
invariant_of-self g c =
    let v = g.R.ReadyList.policy in
    let q = c.args.quantum in
    let x : ControlBlock = c.self.inside.form in
    let o = c.self.inside.clock in
    let t = time_on c.args.now o in
    let y : ControlBlock = c.fire-fired.new.self in
    let fe : record { control = y; count = c.fire-fired.result } ≡ fire_all t x = c.fire-fired.ensures ∙ ap (λ t. fire_all t x) c.time-time.ensures in
    let ye : y ≡ (fire_all t x).control = ap (λ (f : Fired). f.control) fe in
    let sound = c.self.invariant.sound in
    let fsound = c.firing_keeps_controls.ensures t x sound in
    record {
      sound = subst IsSoundControl (sym ye) fsound;
      behind = c.self.invariant.behind;
      ahead = c.self.invariant.ahead;
    }

pub invariant_of-self-2 : goal.invariant_of-self-2
invariant_of-self-2 g c =
    let v = g.R.ReadyList.policy in
    let q = c.args.quantum in
    let x : ControlBlock = c.self.inside.form in
    let o = c.self.inside.clock in
    let t = time_on c.args.now o in
    let y : ControlBlock = c.fire-fired.new.self in
    let fe : record { control = y; count = c.fire-fired.result } ≡ fire_all t x = c.fire-fired.ensures ∙ ap (λ t. fire_all t x) c.time-time.ensures in
    let ye : y ≡ (fire_all t x).control = ap (λ (f : Fired). f.control) fe in
    let sound = c.self.invariant.sound in
    let fsound = c.firing_keeps_controls.ensures t x sound in
    let d = c.in-Some.d in
    let ysound : IsSoundControl y = subst IsSoundControl (sym ye) fsound in
    let p : Some d.0 ≡ pick v y.dues y.ready = sym (ap number_of c.in-Some.is) ∙ c.pick.ensures in
    let pa : Some d.0 ≡ pick v (fire_all t x).control.dues (fire_all t x).control.ready = subst (λ (z : ControlBlock). Some d.0 ≡ pick v z.dues z.ready) ye p in
    let there = c.picked_is_ready.ensures v d.0 (fire_all t x).control fsound (sym pa) in
    let go = going c.args.now q x o v d (sym pa) fsound there.1 in
    let ran : IsRun d.0 y c.run_plain-plain.new.self c.run_plain-plain.result (plain.ahead t go.code q go.context y.parts.memory) =
    subst (λ t. IsRun d.0 y c.run_plain-plain.new.self c.run_plain-plain.result (plain.ahead t go.code q go.context y.parts.memory)) c.time-time.ensures
    (c.run_plain-plain.ensures.plain go.code go.context (ap (λ (z : ControlBlock). slice_get z.parts.code d.0) ye ∙ go.code_at) (ap (λ (z : ControlBlock). slice_get z.parts.contexts d.0) ye ∙ go.context_at)) in
    record {
      sound = between_sound c.args.now q x o v d go y c.run_plain-plain.new.self c.run_plain-plain.result ye ran fsound.ready (c.aheads_keep_controls.ensures t q v d.0 x go.code go.context sound go.picked go.code_at go.context_at);
      behind = c.self.invariant.behind;
      ahead = c.self.invariant.ahead;
    }

pub returns-in_default-clause-begun : goal.returns-in_default-clause-begun
returns-in_default-clause-begun g c =
    let v = g.R.ReadyList.policy in
    let q = c.args.quantum in
    let x : ControlBlock = c.self.inside.form in
    let o = c.self.inside.clock in
    let t = time_on c.args.now o in
    let y : ControlBlock = c.fire-fired.new.self in
    let fe : record { control = y; count = c.fire-fired.result } ≡ fire_all t x = c.fire-fired.ensures ∙ ap (λ t. fire_all t x) c.time-time.ensures in
    let ye : y ≡ (fire_all t x).control = ap (λ (f : Fired). f.control) fe in
    let sound = c.self.invariant.sound in
    let fsound = c.firing_keeps_controls.ensures t x sound in
    let p : None ≡ pick v (fire_all t x).control.dues (fire_all t x).control.ready = subst (λ (z : ControlBlock). None ≡ pick v z.dues z.ready) ye (sym (ap number_of c.in_default.is) ∙ c.pick.ensures) in
    subst (λ (r : Running). IsBegun q c.args.now r (record { control = y; offset = o; version = v }) (record { disp = None; fired = c.fire-fired.result; plain = record { ran = 0; end = end.Quantum }; need = needs.Nothing })) c.self.view_is
    (record {
      sound = sound;
      disp = p;
      count = ap (λ (f : Fired). f.count) fe;
      block = ap (λ z. record { control = z; offset = o; version = v }) (ye ∙ sym (nothing_ran c.args.now q x o v p));
      plain = nothing_told c.args.now q x o v p (record { ran = 0; end = end.Quantum });
      proper = refl;
      need = nothing_needed c.args.now q x o v p;
    })

pub returns-clause-begun : goal.returns-clause-begun
returns-clause-begun g c =
    let v = g.R.ReadyList.policy in
    let q = c.args.quantum in
    let x : ControlBlock = c.self.inside.form in
    let o = c.self.inside.clock in
    let t = time_on c.args.now o in
    let y : ControlBlock = c.fire-fired.new.self in
    let fe : record { control = y; count = c.fire-fired.result } ≡ fire_all t x = c.fire-fired.ensures ∙ ap (λ t. fire_all t x) c.time-time.ensures in
    let ye : y ≡ (fire_all t x).control = ap (λ (f : Fired). f.control) fe in
    let sound = c.self.invariant.sound in
    let fsound = c.firing_keeps_controls.ensures t x sound in
    let d = c.in-Some.d in
    let ysound : IsSoundControl y = subst IsSoundControl (sym ye) fsound in
    let p : Some d.0 ≡ pick v y.dues y.ready = sym (ap number_of c.in-Some.is) ∙ c.pick.ensures in
    let pa : Some d.0 ≡ pick v (fire_all t x).control.dues (fire_all t x).control.ready = subst (λ (z : ControlBlock). Some d.0 ≡ pick v z.dues z.ready) ye p in
    let there = c.picked_is_ready.ensures v d.0 (fire_all t x).control fsound (sym pa) in
    let go = going c.args.now q x o v d (sym pa) fsound there.1 in
    let ran : IsRun d.0 y c.run_plain-plain.new.self c.run_plain-plain.result (plain.ahead t go.code q go.context y.parts.memory) =
    subst (λ t. IsRun d.0 y c.run_plain-plain.new.self c.run_plain-plain.result (plain.ahead t go.code q go.context y.parts.memory)) c.time-time.ensures
    (c.run_plain-plain.ensures.plain go.code go.context (ap (λ (z : ControlBlock). slice_get z.parts.code d.0) ye ∙ go.code_at) (ap (λ (z : ControlBlock). slice_get z.parts.contexts d.0) ye ∙ go.context_at)) in
    subst (λ (r : Running). IsBegun q c.args.now r (record { control = c.run_plain-plain.new.self; offset = o; version = v }) (record { disp = Some d; fired = c.fire-fired.result; plain = c.run_plain-plain.result; need = c.need_after-need.result })) c.self.view_is
    (begun_is c.args.now q x o v d go y c.run_plain-plain.new.self c.fire-fired.result c.run_plain-plain.result c.need_after-need.result fe sound ran c.run_plain-plain.ensures.proper c.need_after-need.ensures)
