use Rattle.std.proofs.Common.{◌≤◌, ◌<◌, ap, sym, ◌∙◌, subst, length, List, ℕ}
use Rattle.std.proofs.lemmas.Option.{same_Some}
use Rattle.dc_base.specs.Ahead as plain
use Rattle.dc_base.specs.ControlBlocks.{ControlBlock}
use Rattle.dc_base.specs.Parts.{with_context}
use Rattle.dc_exec.specs.Steps.{context_of}
use Rattle.dc_calls.proofs.CallContexts.{context_is}
use Rattle.dc_calls.proofs.SliceLooks.{found, ahead_of_same}
use Rattle.dc_calls.proofs.SliceParts.{plain_done}
use Rattle.dc_calls.proofs.forms.Form.run_plain.Goals as goal

pub run-ran-requires-clause-code : goal.run-ran-requires-clause-code
run-ran-requires-clause-code g c =
    let there = found _ _ c.args.self.now.parts.code c.args.d.0 c.index.result.now (ap (λ (x : ControlBlock). x.parts.code) c.self.view_is) (subst (λ n. c.args.d.0 < n) (sym c.requires.sound.shape.code) c.requires.there) c.index.ensures in
    subst (λ (code : List ℕ). length code ≤ 1024) (sym c.as_slice-code.ensures.value) (c.requires.sound.dispatchers.code c.args.d.0 _ there).1

pub returns-clause-plain : goal.returns-clause-plain
returns-clause-plain g c = λ code x code_at context_at.
    let there = found _ _ c.args.self.now.parts.code c.args.d.0 c.index.result.now (ap (λ (x : ControlBlock). x.parts.code) c.self.view_is) (subst (λ n. c.args.d.0 < n) (sym c.requires.sound.shape.code) c.requires.there) c.index.ensures in
    let seen = c.run-ran.ensures.value ∙ ahead_of_same c.args.time c.args.quantum _ _ _ code _ x
    (ap (λ (x : ControlBlock). x.parts.memory) c.self.view_is)
    (c.as_slice-code.ensures.value ∙ same_Some _ _ (sym there ∙ code_at))
    (context_is _ _ _ c.args.d.0 _ x c.self.view_is c.disp-disp.ensures context_at) in
    record {
      control = plain_done _ _ _ c.args.self.now _ c.args.d.0 (context_of c.run-ran.new.d) c.self.view_is c.go_to.ensures.control
          ∙ ap (λ (a : plain.Ahead). record c.args.self.now { parts = with_context c.args.self.now.parts c.args.d.0 a.context a.memory }) seen;
      ran = ap (λ (a : plain.Ahead). a.ran) seen;
      end = ap (λ (a : plain.Ahead). a.end) seen;
    }
