use Rattle.std.proofs.Common.{◌≤◌, ◌<◌, ap, sym, ◌∙◌, subst, length, List, ℕ}
use Rattle.std.proofs.lemmas.Option.{same_Some}
use Rattle.dc_base.specs.ControlBlocks.{ControlBlock}
use Rattle.dc_calls.proofs.CallContexts.{context_is}
use Rattle.dc_calls.proofs.SliceLooks.{found, end_of_same}
use Rattle.dc_calls.proofs.forms.Form.end_ahead.Goals as goal

pub end_ahead-requires-clause-code : goal.end_ahead-requires-clause-code
end_ahead-requires-clause-code g c =
    let there = found _ _ c.args.self.now.parts.code c.args.d.0 c.index.result.now (ap (λ (x : ControlBlock). x.parts.code) c.self.view_is) (subst (λ n. c.args.d.0 < n) (sym c.requires.sound.shape.code) c.requires.there) c.index.ensures in
    subst (λ (code : List ℕ). length code ≤ 1024) (sym c.as_slice.ensures.value) (c.requires.sound.dispatchers.code c.args.d.0 _ there).1

pub returns-clause-end : goal.returns-clause-end
returns-clause-end g c = λ code x code_at context_at.
    let there = found _ _ c.args.self.now.parts.code c.args.d.0 c.index.result.now (ap (λ (x : ControlBlock). x.parts.code) c.self.view_is) (subst (λ n. c.args.d.0 < n) (sym c.requires.sound.shape.code) c.requires.there) c.index.ensures in
    c.end_ahead.ensures.end ∙ end_of_same c.args.time c.args.quantum _ _ _ code _ x
    (c.as_slice-2.ensures.value ∙ ap (λ (x : ControlBlock). x.parts.memory) c.self.view_is)
    (c.as_slice.ensures.value ∙ same_Some _ _ (sym there ∙ code_at))
    (context_is _ _ _ c.args.d.0 _ x c.self.view_is c.disp-disp.ensures context_at)
