use Rattle.std.proofs.Common.{IsSome, ◌≤◌, subst, sym, ap, ◌∙◌, ◌+◌, List, length}
use Rattle.dc_base.specs.declared.commands.ScriptLine.{ScriptLine}
use Rattle.dc_base.specs.States.{Script}
use Rattle.dc_base.specs.Script.{next_raise}
use Rattle.dc_objects.specs.Scripts.{raise_place}
use Rattle.dc_objects.proofs.ScriptPlaces.{raise_made}
use Rattle.dc_objects.proofs.scripts.ScriptState.raised.Goals as goal

pub invariant_of-self : goal.invariant_of-self
invariant_of-self c = let i = c.self.inside in let r = c.raise_at-self-inside in
    raise_made i.lines i.place i.raises i.next r.result c.self.invariant
    (subst (λ (t : Script). IsSome (next_raise t.lines t.raises)) (sym c.self.view_is) c.requires)
    (r.ensures.value ∙ ap (λ ls. raise_place ls (i.next + 1)) c.as_slice.ensures)
    (subst (λ (ls : List ScriptLine). r.result ≤ length ls) c.as_slice.ensures r.ensures.within)
    r.ensures.past
