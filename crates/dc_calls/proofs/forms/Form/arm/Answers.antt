use Rattle.std.proofs.Common.{◌≡◌, ◌+◌, ◌<◌, ◌≤◌, ◌↔◌, List, map, length, sym, ap, ◌∙◌, subst}
use Rattle.std.specs.Prelude.{IsErr, slice_get}
use Rattle.dc_base.specs.ControlBlocks.{ControlBlock}
use Rattle.dc_base.specs.Effects.{Context, reg}
use Rattle.dc_base.specs.Words.{Each}
use Rattle.dc_exec.specs.Steps.{context_of}
use Rattle.dc_calls.proofs.CallContexts.{running_within, running_places, context_is}
use Rattle.dc_calls.proofs.CallResults.{ok_of, on_ok, on_err}
use Rattle.dc_calls.proofs.CallServed.{serves_faults, serves_makes, serves_refused}
use Rattle.dc_calls.proofs.CallSignals.{arm_fields, arm_faults, arm_full, arm_makes, agenda_kept, no_store, timer_made}
use Rattle.dc_calls.proofs.forms.Form.arm.Goals as goal

pub signal-requires-clause-slot : goal.signal-requires-clause-slot
signal-requires-clause-slot g c = (arm_fields c.args.a c.args.b c.args.imm c.requires.proper).0

pub returns-in-Err : goal.returns-in-Err
returns-in-Err g c = record { served = λ k n out x there. serves_faults k n _ c.args.self.now c.args.self.now out _ _ (arm_faults c.args.time c.args.d.0 c.args.a c.args.b x c.args.self.now.parts c.args.imm _ c.in-Err.ensures.call) c.trap.ensures }

pub bounds-disp-b : goal.bounds-disp-b
bounds-disp-b g c = (arm_fields c.args.a c.args.b c.args.imm c.requires.proper).1

pub returns-then-is_err : goal.returns-then-is_err
returns-then-is_err g c = record {
  served = λ k n out x there.
      let err = sym c.is_err.ensures.value ∙ c.if-is_err.true in
      serves_refused k n _ c.args.self.now _ out 10
      (arm_full c.args.time c.args.d.0 c.args.a c.args.b x c.args.self.now.parts c.arm.result c.args.imm c.in-Ok.signal.0 c.in-Ok.ensures.call err (subst (λ (y : ControlBlock). IsErr c.arm.result ↔ (64 ≤ length y.parts.timers)) c.self.view_is c.arm.ensures.full))
      (agenda_kept _ _ _ _ c.self.view_is (on_err c.arm.result err c.arm.ensures.kept));
}

pub go_on-requires-clause-there : goal.go_on-requires-clause-there
go_on-requires-clause-there g c =
    let ok = ok_of c.arm.result c.is_err.result c.is_err.ensures.value c.if-is_err.false in
    let armed = on_ok c.arm.result ok c.arm.ensures.armed in
    let same : map context_of c.arm.new.self.disps ≡ map context_of c.self.inside.agenda.disps = ap (λ (y : ControlBlock). y.parts.contexts) (armed no_store) in
    subst (λ (cs : List Context). c.args.d.0 < length cs) (sym same) (subst (λ (y : ControlBlock). c.args.d.0 < length y.parts.contexts) (sym c.self.view_is) (running_within _ _ c.requires.running))

pub go_on-requires-clause-places : goal.go_on-requires-clause-places
go_on-requires-clause-places g c =
    let ok = ok_of c.arm.result c.is_err.result c.is_err.ensures.value c.if-is_err.false in
    let armed = on_ok c.arm.result ok c.arm.ensures.armed in
    let same : map context_of c.arm.new.self.disps ≡ map context_of c.self.inside.agenda.disps = ap (λ (y : ControlBlock). y.parts.contexts) (armed no_store) in
    subst (λ (cs : List Context). Each cs (λ d (k : Context). k.place ≤ 65535)) (sym same)
    (subst (λ (y : ControlBlock). Each y.parts.contexts (λ d (k : Context). k.place ≤ 65535)) (sym c.self.view_is) (running_places _ _ c.requires.running))

pub returns : goal.returns
returns g c = record {
  served = λ k n out x there.
      let ok = ok_of c.arm.result c.is_err.result c.is_err.ensures.value c.if-is_err.false in
      let armed = on_ok c.arm.result ok c.arm.ensures.armed in
      let same : map context_of c.arm.new.self.disps ≡ map context_of c.self.inside.agenda.disps = ap (λ (y : ControlBlock). y.parts.contexts) (armed no_store) in
      let deadline = c.args.time + c.from.result in
      let due : deadline ≡ c.args.time + reg x c.args.b = ap (λ n. c.args.time + n) (c.from.ensures ∙ ap (λ (y : Context). reg y c.args.b) (context_is _ _ _ _ _ x c.self.view_is c.disp.ensures there)) in
      serves_makes k n _ c.args.self.now _ out _ _
      (arm_makes c.args.time c.args.d.0 c.args.a c.args.b x c.args.self.now.parts c.arm.result c.args.imm c.in-Ok.signal.0 deadline c.in-Ok.ensures.call ok
      (subst (λ (y : ControlBlock). IsErr c.arm.result ↔ (64 ≤ length y.parts.timers)) c.self.view_is c.arm.ensures.full) due)
      (c.go_on.ensures x (ap (λ (cs : List Context). slice_get cs c.args.d.0) same ∙ (ap (λ (y : ControlBlock). slice_get y.parts.contexts c.args.d.0) c.self.view_is ∙ there))
      ∙ timer_made _ _ _ _ c.self.view_is deadline c.in-Ok.signal.0 c.args.imm (armed _) c.args.d.0 x);
}
