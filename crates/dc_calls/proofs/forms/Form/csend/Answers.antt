use Rattle.std.proofs.Common.{sym, ap, ◌∙◌, refl}
use Rattle.dc_base.specs.ControlBlocks.{ControlBlock}
use Rattle.dc_base.specs.Parts.{words_at}
use Rattle.dc_base.specs.Serving.{channel_outside}
use Rattle.dc_calls.proofs.CallContexts.{running_within}
use Rattle.dc_calls.proofs.CallResults.{ok_of, on_err}
use Rattle.dc_calls.proofs.CallServed.{serves_faults, serves_held, serves_made}
use Rattle.dc_calls.proofs.CallChannels.{csend_slots, csend_faults, csend_is, channel_takes, channel_full, no_channel_to}
use Rattle.dc_calls.proofs.forms.Form.csend.Goals as goal

pub between-requires-clause-end : goal.between-requires-clause-end
between-requires-clause-end g c = (csend_slots c.args.a c.args.b c.args.imm c.requires.proper).0

pub between-requires-clause-frame : goal.between-requires-clause-frame
between-requires-clause-frame g c = (csend_slots c.args.a c.args.b c.args.imm c.requires.proper).1

pub between-requires-clause-imm : goal.between-requires-clause-imm
between-requires-clause-imm g c = (csend_slots c.args.a c.args.b c.args.imm c.requires.proper).2

pub returns-in-Err-clause-served : goal.returns-in-Err-clause-served
returns-in-Err-clause-served g c = λ k n time x there. serves_faults k n _ c.args.self.now c.args.self.now _ _ _ (csend_faults time c.args.d.0 c.args.a c.args.b c.args.imm x c.args.self.now.parts _ c.in-Err.ensures.call) c.trap.ensures

pub returns-in_default : goal.returns-in_default
returns-in_default g c = record {
  served = λ k n time x there.
      let is = csend_is time c.args.d.0 c.args.a c.args.b c.args.imm x c.args.self.now.parts c.in-Ok.between.end c.in-Ok.between.address c.in-Ok.ensures.call c.in-Ok.ensures.end c.in-Ok.ensures.address in
      serves_held k n _ c.args.self.now c.args.self.now _ _ _ refl refl (no_channel_to k n c.in-Ok.between.end _ _ _ c.args.outside.now is c.in_default.not-Channel);
  kind = λ m f. f;
}

pub returns-then-is_err-clause-served : goal.returns-then-is_err-clause-served
returns-then-is_err-clause-served g c = λ k n time x there.
    let err = sym c.is_err.ensures.value ∙ c.if-is_err.true in
    let is = csend_is time c.args.d.0 c.args.a c.args.b c.args.imm x c.args.self.now.parts c.in-Ok.between.end c.in-Ok.between.address c.in-Ok.ensures.call c.in-Ok.ensures.end c.in-Ok.ensures.address in
    let m = c.words_at-m.ensures ∙ ap (λ l. words_at l c.in-Ok.between.address) (c.deref.ensures.value ∙ ap (λ (y : ControlBlock). y.parts.memory) c.self.view_is) in
    rw c.in-Channel.is
    (serves_held k n _ c.args.self.now c.args.self.now _ _ _ refl (ap channel_outside (on_err c.push.result err c.push.ensures.kept)) (channel_full k n c.in-Ok.between.end _ _ c.push.result _ c.words_at-m.result _ is err c.push.ensures.refused m))

pub go_on-requires-clause-there : goal.go_on-requires-clause-there
go_on-requires-clause-there g c = running_within _ _ c.requires.running

pub returns-clause-served : goal.returns-clause-served
returns-clause-served g c = λ k n time x there.
    let ok = ok_of c.push.result c.is_err.result c.is_err.ensures.value c.if-is_err.false in
    let is = csend_is time c.args.d.0 c.args.a c.args.b c.args.imm x c.args.self.now.parts c.in-Ok.between.end c.in-Ok.between.address c.in-Ok.ensures.call c.in-Ok.ensures.end c.in-Ok.ensures.address in
    let m = c.words_at-m.ensures ∙ ap (λ l. words_at l c.in-Ok.between.address) (c.deref.ensures.value ∙ ap (λ (y : ControlBlock). y.parts.memory) c.self.view_is) in
    rw c.in-Channel.is
    (serves_made k n _ c.args.self.now _ _ _ _ _ (c.go_on.ensures x there) (channel_takes k n c.in-Ok.between.end _ _ c.push.result _ c.words_at-m.result _ c.push.new.self is ok c.push.ensures.sent m))
