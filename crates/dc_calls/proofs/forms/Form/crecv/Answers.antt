use Rattle.std.proofs.Common.{◌≡◌, ◌<◌, length, subst, sym, ap, ◌∙◌, refl}
use Rattle.std.specs.Prelude.{slice_get}
use Rattle.dc_base.specs.ControlBlocks.{ControlBlock}
use Rattle.dc_base.specs.Parts.{with_words}
use Rattle.dc_base.specs.Serving.{channel_outside}
use Rattle.dc_calls.proofs.CallContexts.{running_within}
use Rattle.dc_calls.proofs.CallLists.{put_all}
use Rattle.dc_calls.proofs.CallServed.{serves_faults, serves_held, serves_made}
use Rattle.dc_calls.proofs.CallChannels.{crecv_slots, crecv_faults, crecv_is, channel_gives, channel_empty, no_channel_from, memory_received}
use Rattle.dc_calls.proofs.forms.Form.crecv.Goals as goal

pub between-requires-clause-end : goal.between-requires-clause-end
between-requires-clause-end g c = (crecv_slots c.args.a c.args.b c.args.imm c.requires.proper).0

pub between-requires-clause-frame : goal.between-requires-clause-frame
between-requires-clause-frame g c = (crecv_slots c.args.a c.args.b c.args.imm c.requires.proper).1

pub between-requires-clause-imm : goal.between-requires-clause-imm
between-requires-clause-imm g c = (crecv_slots c.args.a c.args.b c.args.imm c.requires.proper).2

pub returns-in-Err-clause-served : goal.returns-in-Err-clause-served
returns-in-Err-clause-served g c = λ k n time x there. serves_faults k n _ c.args.self.now c.args.self.now _ _ _ (crecv_faults time c.args.d.0 c.args.a c.args.b c.args.imm x c.args.self.now.parts _ c.in-Err.ensures.call) c.trap.ensures

pub returns-in_default : goal.returns-in_default
returns-in_default g c = record {
  served = λ k n time x there.
      let is = crecv_is time c.args.d.0 c.args.a c.args.b c.args.imm x c.args.self.now.parts c.in-Ok.between.end c.in-Ok.between.address c.in-Ok.ensures.call c.in-Ok.ensures.end c.in-Ok.ensures.address in
      serves_held k n _ c.args.self.now c.args.self.now _ _ _ refl refl (no_channel_from k n c.in-Ok.between.end _ _ _ c.args.outside.now is c.in_default.not-Channel);
  kind = λ m f. f;
}

pub returns-in_default-pop-clause-served : goal.returns-in_default-pop-clause-served
returns-in_default-pop-clause-served g c = λ k n time x there.
    let is = crecv_is time c.args.d.0 c.args.a c.args.b c.args.imm x c.args.self.now.parts c.in-Ok.between.end c.in-Ok.between.address c.in-Ok.ensures.call c.in-Ok.ensures.end c.in-Ok.ensures.address in
    rw c.in-Channel.is
    (serves_held k n _ c.args.self.now c.args.self.now _ _ _ refl (ap channel_outside c.in_default-pop.ensures.kept) (channel_empty k n c.in-Ok.between.end _ _ _ _ is c.in_default-pop.ensures.nothing))

pub go_on-requires-clause-there : goal.go_on-requires-clause-there
go_on-requires-clause-there g c = subst (λ (y : ControlBlock). c.args.d.0 < length y.parts.contexts) (sym c.self.view_is) (running_within _ _ c.requires.running)

pub returns-clause-served : goal.returns-clause-served
returns-clause-served g c = λ k n time x there.
    let memory : c.deref_mut.result.now ≡ c.self.inside.memory.items = c.deref_mut.ensures.value in
    let words : c.write_words.new.memory ≡ with_words c.in-Ok.between.address c.in-Some.m.0 c.deref_mut.result.now = c.write_words.ensures in
    let size : length c.write_words.new.memory ≡ length c.deref_mut.result.now = c.write_words.auto.memory in
    let is = crecv_is time c.args.d.0 c.args.a c.args.b c.args.imm x c.args.self.now.parts c.in-Ok.between.end c.in-Ok.between.address c.in-Ok.ensures.call c.in-Ok.ensures.end c.in-Ok.ensures.address in
    rw c.in-Channel.is
    (serves_made k n _ c.args.self.now _ _ _ _ _
    (c.go_on.ensures x (ap (λ (y : ControlBlock). slice_get y.parts.contexts c.args.d.0) c.self.view_is ∙ there)
    ∙ memory_received _ c.args.self.now _ c.in-Ok.between.address c.in-Some.m c.args.d.0 x c.self.view_is
    (put_all _ c.self.inside.memory.items c.deref_mut.result.now c.write_words.new.memory memory c.deref_mut.ensures.len size ∙ (words ∙ ap (with_words c.in-Ok.between.address c.in-Some.m.0) memory)))
    (channel_gives k n c.in-Ok.between.end _ _ c.in-Ok.between.address c.in-Some.m _ c.pop.new.self is c.in-Some.ensures.taken))
