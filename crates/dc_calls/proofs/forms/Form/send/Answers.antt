use Rattle.std.proofs.Common.{◌≡◌, ◌<◌, length, sym, ap, ◌∙◌, subst}
use Rattle.std.specs.Prelude.{slice_get}
use Rattle.dc_base.specs.ControlBlocks.{ControlBlock}
use Rattle.dc_base.specs.Parts.{words_at}
use Rattle.dc_calls.proofs.CallContexts.{running_within}
use Rattle.dc_calls.proofs.CallLists.{put_back, put_same, there_at}
use Rattle.dc_calls.proofs.CallResults.{ok_of, on_err}
use Rattle.dc_calls.proofs.CallServed.{serves_faults, serves_waits, serves_makes}
use Rattle.dc_calls.proofs.CallPorts.{send_slots, send_faults, send_is, send_makes, send_waits, port_changed, ports_kept}
use Rattle.dc_calls.proofs.forms.Form.send.Goals as goal

pub between-requires-clause-end : goal.between-requires-clause-end
between-requires-clause-end g c = (send_slots c.args.a c.args.b c.args.imm c.requires.proper).0

pub between-requires-clause-frame : goal.between-requires-clause-frame
between-requires-clause-frame g c = (send_slots c.args.a c.args.b c.args.imm c.requires.proper).1

pub between-requires-clause-imm : goal.between-requires-clause-imm
between-requires-clause-imm g c = (send_slots c.args.a c.args.b c.args.imm c.requires.proper).2

pub returns-in-Err : goal.returns-in-Err
returns-in-Err g c = record { served = λ k n time out x there. serves_faults k n _ c.args.self.now c.args.self.now out _ _ (send_faults time c.args.d.0 c.args.a c.args.b c.args.imm x c.args.self.now.parts _ c.in-Err.ensures.call) c.trap.ensures }

pub returns-then-is_err : goal.returns-then-is_err
returns-then-is_err g c = record {
  served = λ k n time out x there.
      let err = sym c.is_err.ensures.value ∙ c.if-is_err.true in
      let before = c.args.self.now in
      let end = c.in-Ok.between.end in
      let held : c.deref_mut.result.now ≡ before.parts.ports = c.deref_mut.ensures.value ∙ ap (λ (y : ControlBlock). y.parts.ports) c.self.view_is in
      let within : end < length c.self.inside.ports.items = subst (λ (y : ControlBlock). end < length y.parts.ports) (sym c.self.view_is) c.in-Ok.ensures.named in
      serves_waits k n _ before _ out _
      (send_is time c.args.d.0 c.args.a c.args.b c.args.imm x before.parts end c.in-Ok.between.address c.in-Ok.ensures.call c.in-Ok.ensures.end c.in-Ok.ensures.address
      ∙ send_waits c.push.result end _ _ _ (there_at before.parts.ports c.deref_mut.result.now end c.index-deref_mut-port.result held c.in-Ok.ensures.named) err c.push.ensures.room)
      (ports_kept _ _ _ c.self.view_is (put_same c.self.inside.ports.items c.deref_mut.result.now end c.index-deref_mut-port.result c.push.new.self c.deref_mut.ensures.value within (on_err c.push.result err c.push.ensures.kept)));
}

pub go_on-requires-clause-there : goal.go_on-requires-clause-there
go_on-requires-clause-there g c = subst (λ (y : ControlBlock). c.args.d.0 < length y.parts.contexts) (sym c.self.view_is) (running_within _ _ c.requires.running)

pub returns : goal.returns
returns g c = record {
  served = λ k n time out x there.
      let ok = ok_of c.push.result c.is_err.result c.is_err.ensures.value c.if-is_err.false in
      let before = c.args.self.now in
      let end = c.in-Ok.between.end in
      let held : c.deref_mut.result.now ≡ before.parts.ports = c.deref_mut.ensures.value ∙ ap (λ (y : ControlBlock). y.parts.ports) c.self.view_is in
      serves_makes k n _ before _ out _ _
      (send_is time c.args.d.0 c.args.a c.args.b c.args.imm x before.parts end c.in-Ok.between.address c.in-Ok.ensures.call c.in-Ok.ensures.end c.in-Ok.ensures.address
      ∙ send_makes c.push.result end _ c.words_at-m.result _ _ c.push.new.self (there_at before.parts.ports c.deref_mut.result.now end c.index-deref_mut-port.result held c.in-Ok.ensures.named) ok c.push.ensures.room c.push.ensures.pushed
      (c.words_at-m.ensures ∙ ap (λ l. words_at l c.in-Ok.between.address) (c.deref.ensures.value ∙ ap (λ (y : ControlBlock). y.parts.memory) c.self.view_is)))
      (c.go_on.ensures x (ap (λ (y : ControlBlock). slice_get y.parts.contexts c.args.d.0) c.self.view_is ∙ there)
      ∙ port_changed _ before _ end c.push.new.self c.args.d.0 x c.self.view_is (put_back c.self.inside.ports.items c.deref_mut.result.now end c.push.new.self c.deref_mut.ensures.value));
}
