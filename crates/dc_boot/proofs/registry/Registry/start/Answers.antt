use Rattle.std.proofs.Common.{subst, ◌<◌, ℕ, ap, sym, ◌∙◌, not, get_or}
use Rattle.dc_boot.proofs.After.{start_done, none_of}
use Rattle.dc_boot.proofs.registry.Registry.start.Goals as goal

pub returns-then-is_none : goal.returns-then-is_none
returns-then-is_none c =
    let at = c.args.c.0 in
    let before = c.index-deref-at.result in
    start_done c.self.inside.cores.items c.deref_mut.result.now c.self.inside.places.items c.args.self.now at before c.self.view_is c.deref_mut.ensures.value (subst (λ (n : ℕ). at < n) c.len.ensures.value c.if-at-len.true) c.args.v c.start.result
    (ap (λ l. get_or l at before) (c.deref_mut.ensures.value ∙ sym c.deref.ensures.0) ∙ sym c.index-deref-at.is ∙ none_of before (c.is_none.ensures ∙ ap not c.if-is_none.true)) c.start.ensures
