use Rattle.std.proofs.Common.{◌≡◌, ◌<◌, length, sym, ap, ◌∙◌, refl, subst}
use Rattle.std.specs.Prelude.{slice_get}
use Rattle.dc_base.specs.ControlBlocks.{ControlBlock}
use Rattle.dc_base.specs.Parts.{with_words}
use Rattle.dc_calls.proofs.CallContexts.{running_within}
use Rattle.dc_calls.proofs.CallLists.{put_back, put_same, put_all, there_at}
use Rattle.dc_calls.proofs.CallServed.{serves_faults, serves_waits, serves_makes}
use Rattle.dc_calls.proofs.CallPorts.{recv_slots, recv_faults, recv_is, recv_makes, recv_waits, port_received, ports_kept}
use Rattle.dc_calls.proofs.forms.Form.recv.Goals as goal

pub between-requires-clause-end : goal.between-requires-clause-end
between-requires-clause-end g c = (recv_slots c.args.a c.args.b c.args.imm c.requires.proper).0

pub between-requires-clause-frame : goal.between-requires-clause-frame
between-requires-clause-frame g c = (recv_slots c.args.a c.args.b c.args.imm c.requires.proper).1

pub between-requires-clause-imm : goal.between-requires-clause-imm
between-requires-clause-imm g c = (recv_slots c.args.a c.args.b c.args.imm c.requires.proper).2

pub returns-in-Err : goal.returns-in-Err
returns-in-Err g c = record { served = λ k n time out x there. serves_faults k n _ c.args.self.now c.args.self.now out _ _ (recv_faults time c.args.d.0 c.args.a c.args.b c.args.imm x c.args.self.now.parts _ c.in-Err.ensures.call) c.trap.ensures }

pub returns-in_default : goal.returns-in_default
returns-in_default g c = record {
  served = λ k n time out x there.
      let before = c.args.self.now in
      let end = c.in-Ok.between.end in
      let held : c.deref_mut.result.now ≡ before.parts.ports = c.deref_mut.ensures.value ∙ ap (λ (y : ControlBlock). y.parts.ports) c.self.view_is in
      let within : end < length c.self.inside.ports.items = subst (λ (y : ControlBlock). end < length y.parts.ports) (sym c.self.view_is) c.in-Ok.ensures.named in
      serves_waits k n _ before _ out _
      (recv_is time c.args.d.0 c.args.a c.args.b c.args.imm x before.parts end c.in-Ok.between.address c.in-Ok.ensures.call c.in-Ok.ensures.end c.in-Ok.ensures.address
      ∙ recv_waits end c.in-Ok.between.address _ before.parts.ports _ (there_at before.parts.ports c.deref_mut.result.now end c.index-deref_mut-port.result held c.in-Ok.ensures.named) (c.in_default.ensures.empty.0 refl))
      (ports_kept _ _ _ c.self.view_is (put_same c.self.inside.ports.items c.deref_mut.result.now end c.index-deref_mut-port.result c.pop.new.self c.deref_mut.ensures.value within c.in_default.ensures.kept));
}

pub go_on-requires-clause-there : goal.go_on-requires-clause-there
go_on-requires-clause-there g c = subst (λ (y : ControlBlock). c.args.d.0 < length y.parts.contexts) (sym c.self.view_is) (running_within _ _ c.requires.running)

pub returns : goal.returns
returns g c =
    let before = c.args.self.now in
    let end = c.in-Ok.between.end in
    let held : c.deref_mut.result.now ≡ before.parts.ports = c.deref_mut.ensures.value ∙ ap (λ (y : ControlBlock). y.parts.ports) c.self.view_is in
    let memory : c.deref_mut-2.result.now ≡ c.self.inside.memory.items = c.deref_mut-2.ensures.value in
    let words : c.write_words.new.memory ≡ with_words c.in-Ok.between.address c.in-Some.m.0 c.deref_mut-2.result.now = c.write_words.ensures in
    let size : length c.write_words.new.memory ≡ length c.deref_mut-2.result.now = c.write_words.auto.memory in
    record {
      served = λ k n time out x there.
          serves_makes k n _ before _ out _ _
          (recv_is time c.args.d.0 c.args.a c.args.b c.args.imm x before.parts end c.in-Ok.between.address c.in-Ok.ensures.call c.in-Ok.ensures.end c.in-Ok.ensures.address
          ∙ recv_makes end c.in-Ok.between.address _ before.parts.ports _ c.pop.new.self c.in-Some.m (there_at before.parts.ports c.deref_mut.result.now end c.index-deref_mut-port.result held c.in-Ok.ensures.named) c.in-Some.ensures.first)
          (c.go_on.ensures x (ap (λ (y : ControlBlock). slice_get y.parts.contexts c.args.d.0) c.self.view_is ∙ there)
          ∙ port_received _ before _ _ end c.in-Ok.between.address c.pop.new.self c.in-Some.m c.args.d.0 x c.self.view_is
          (put_all _ c.self.inside.memory.items c.deref_mut-2.result.now c.write_words.new.memory memory c.deref_mut-2.ensures.len size ∙ (words ∙ ap (with_words c.in-Ok.between.address c.in-Some.m.0) memory))
          (put_back c.self.inside.ports.items c.deref_mut.result.now end c.pop.new.self c.deref_mut.ensures.value));
    }
