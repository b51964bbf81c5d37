use Rattle.std.proofs.Common.{subst, ◌<◌, ℕ, ap, sym, ◌∙◌, get_or, map}
use Rattle.dc_base.specs.Boot.{none_on}
use Rattle.dc_boot.proofs.After.{stop_done}
use Rattle.dc_boot.proofs.registry.Registry.stop.Goals as goal

pub returns-then-is_some : goal.returns-then-is_some
returns-then-is_some c =
    let at = c.args.c.0 in
    let before = c.index-deref-at.result in
    stop_done c.self.inside.cores.items c.deref_mut.result.now c.self.inside.places.items c.args.self.now at before c.self.view_is c.deref_mut.ensures.value (subst (λ (n : ℕ). at < n) c.len.ensures.value c.if-at-len.true) c.leave.new.places before
    (sym c.if-is_some.ensures)
    (ap (λ l. get_or l at before) (c.deref_mut.ensures.value ∙ sym c.deref.ensures.0) ∙ sym c.index-deref-at.is)
    (c.leave.ensures ∙ ap (map (none_on at)) c.as_mut_slice.ensures.value)
