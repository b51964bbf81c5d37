-- What the script's raise comes to, by what stands.
use Rattle.std.proofs.Common.{◌≡◌, ℕ, suc, ◌<◌, ◌≤◌, ◌+◌, [], ◌∷◌, Bool, Option, Some, None, refl, sym, ap, ◌∙◌, arith}
use Rattle.std.specs.Prelude.{slice_get, if◌then◌else◌}
use Rattle.std.proofs.lemmas.Bool.{lt-leb, le-leb}
use Rattle.dc_base.specs.declared.actions.Action.TheVariants as action
use Rattle.dc_base.specs.declared.actions.Actor.TheVariants as actor
use Rattle.dc_base.specs.declared.commands.ScriptLine.{ScriptLine}
use Rattle.dc_base.specs.declared.commands.ScriptLine.TheVariants as line
use Rattle.dc_base.specs.declared.entries.Entry.{Entry}
use Rattle.dc_base.specs.declared.entries.Reason.TheVariants as reason
use Rattle.dc_base.specs.declared.entries.What.TheVariants as what
use Rattle.dc_base.specs.declared.interrupts.Raised.{Raised}
use Rattle.dc_base.specs.declared.numbers.LineNo.{LineNo}
use Rattle.dc_base.specs.Changes.{line_becomes, script_becomes}
use Rattle.dc_base.specs.Cores.{turn_of}
use Rattle.dc_base.specs.Lines.{Wire, how_raised, wire_after_raise}
use Rattle.dc_base.specs.Outcomes.{by_script}
use Rattle.dc_base.specs.Raises.{first_unbegun, raise_line, raise_on, raise_turn}
use Rattle.dc_base.specs.Script.{next_raise}
use Rattle.dc_base.specs.States.{State, Script}
use Rattle.dc_base.specs.Turns.{did, ends, not_enabled, outcome}
use Rattle.dc_bodies.specs.Raised.{raised_by}
use Rattle.dc_bodies.specs.Scripted.{IsNextRaise, IsNoRaise, IsRaised}

module _ (s : State) (t : Script) (at : s.script ≡ t) (polls : Script → ℕ) where
  raises : outcome s (turn_of polls actor.Script action.Raise) ≡ outcome s (raise_turn t (next_raise t.lines t.raises))
  unfolding turn_of
  raises = ap (λ (u : Script). outcome s (raise_turn u (next_raise u.lines u.raises))) at

  module _ (q : ℕ) (e : next_raise t.lines t.raises ≡ Some q) where
    raise_first : outcome s (turn_of polls actor.Script action.Raise) ≡ outcome s (raise_turn t (Some q))
    raise_first = raises ∙ ap (λ o. outcome s (raise_turn t o)) e

    held_back : first_unbegun t < q → outcome s (turn_of polls actor.Script action.Raise) ≡ not_enabled reason.CommandFirst
    held_back h = raise_first
        ∙ ap (λ (b : Bool). outcome s (if b then ends (not_enabled reason.CommandFirst) else raise_line t q (slice_get t.lines q))) (le-leb (suc (first_unbegun t)) q (omega (arith, h)))

    raise_at : q ≤ first_unbegun t → outcome s (turn_of polls actor.Script action.Raise) ≡ outcome s (raise_line t q (slice_get t.lines q))
    raise_at h = raise_first
        ∙ ap (λ (b : Bool). outcome s (if b then ends (not_enabled reason.CommandFirst) else raise_line t q (slice_get t.lines q))) (lt-leb (suc (first_unbegun t)) q (omega (arith, h)))

pub all_made : (t : Script) → next_raise t.lines t.raises ≡ None → IsNoRaise t reason.NoRaise
all_made t e s at polls = raises s t at polls ∙ ap (λ o. outcome s (raise_turn t o)) e

pub command_first : (t : Script) (q : ℕ) → next_raise t.lines t.raises ≡ Some q → first_unbegun t < q → IsNoRaise t reason.CommandFirst
command_first t q e h s at polls = held_back s t at polls q e h

no_line : (s : State) (t : Script) (q : ℕ) (o : Option ScriptLine) → raised_by o ≡ None → outcome s (raise_line t q o) ≡ not_enabled reason.NoRaise
no_line s t q None e = refl
no_line s t q (Some (line.Boot c)) e = refl
no_line s t q (Some (line.Raise m)) e = absurd cc
no_line s t q (Some (line.Route m c)) e = refl
no_line s t q (Some (line.Await b w m)) e = refl

pub no_raise_line : (t : Script) (q : ℕ) → next_raise t.lines t.raises ≡ Some q → q ≤ first_unbegun t → raised_by (slice_get t.lines q) ≡ None → IsNoRaise t reason.NoRaise
no_raise_line t q e h f s at polls = raise_at s t at polls q e h ∙ no_line s t q (slice_get t.lines q) f

pub is_raise : (o : Option ScriptLine) (l : LineNo) → raised_by o ≡ Some l → o ≡ Some (line.Raise l)
is_raise None l e = absurd cc
is_raise (Some (line.Boot c)) l e = absurd cc
is_raise (Some (line.Raise m)) l e = ap (λ (o : Option LineNo). raise_of o) e
  where
    raise_of : Option LineNo → Option ScriptLine
    raise_of None = None
    raise_of (Some m) = Some (line.Raise m)
is_raise (Some (line.Route m c)) l e = absurd cc
is_raise (Some (line.Await b w m)) l e = absurd cc

pub raised_is : (t t' : Script) (w w' : Wire) (q : ℕ) (l : LineNo) (h : Raised) (e : Entry) → IsNextRaise t q l → h ≡ how_raised (w.counts.raised + 1) w.bound w.pending → w' ≡ wire_after_raise w →
    t' ≡ record t { raises = t.raises + 1 } → e ≡ by_script (what.Raise q l h) → IsRaised l.0 t t' w w' e
raised_is t t' w w' q l h e n a b d f s at there polls =
    let u : Script = record t { raises = t.raises + 1 } in
    raise_at s t at polls q n.next n.free
    ∙ ap (λ o. outcome s (raise_line t q o)) n.line
    ∙ ap (λ o. raise_on t q l o) there
    ∙ sym (ap (λ x. did (line_becomes l.0 x ∷ script_becomes t' ∷ []) e) b
    ∙ ap (λ x. did (line_becomes l.0 (wire_after_raise w) ∷ script_becomes x ∷ []) e) d
    ∙ ap (did (line_becomes l.0 (wire_after_raise w) ∷ script_becomes u ∷ [])) (f ∙ ap (λ x. by_script (what.Raise q l x)) a))
