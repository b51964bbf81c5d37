-- A lawful entry touches the core of its actor, or the script, which is there.
use Rattle.std.proofs.Common.{◌≡◌, ℕ, ◌<◌, Bool, true, false, true≢false, List, [], ◌∷◌, Option, Some, None, refl, sym, ap, ◌∙◌, subst, inl, inr, map}
use Rattle.std.specs.Prelude.{slice_get}
use Rattle.std.specs.Option.{option_map}
use Rattle.std.proofs.lemmas.Option.{slice_get_within}
use Rattle.dc_base.specs.declared.actions.Actor.{Actor}
use Rattle.dc_base.specs.declared.actions.Actor.TheVariants as actor
use Rattle.dc_base.specs.declared.actions.Action.{Action}
use Rattle.dc_base.specs.declared.actions.Action.TheVariants as action
use Rattle.dc_base.specs.declared.entries.Entry.{Entry}
use Rattle.dc_base.specs.Words.{bind}
use Rattle.dc_base.specs.States.{State, Settings, Core, Script}
use Rattle.dc_base.specs.Changes.{Name, a_core, the_script, Object, core, script, at, Change}
use Rattle.dc_base.specs.Turns.{Outcome, did, not_enabled, spent, outcome, looks}
use Rattle.dc_base.specs.Cores.{core_turn, turn_of}
use Rattle.dc_base.specs.Actions.{action_of, polls_of}
use Rattle.dc_base.specs.Histories.{touched, IsLawful, Listed}
use Rattle.dc_base.specs.Objects.{object_number, at_number, touched_numbers, HasSizes}
use Rattle.dc_touch.specs.Within.{Within}
use Rattle.dc_touch.specs.Numbered.{IsAmong}
use Rattle.dc_touch.proofs.Numbers.{name_at-number}

abbrev is_did : Outcome → Bool
is_did (did changes e) = true
is_did (not_enabled why) = false
is_did spent = false

never : {A : Type 0} (o : Outcome) (changes : List Change) (e : Entry) → is_did o ≡ false → o ≡ did changes e → A
never o changes e h k = absurd (true≢false (sym (ap is_did k) ∙ h))

module _ (t : Settings) (s : State) (sizes : HasSizes t s) where
  -- one of these objects is there
  record IsSomeThere (ns : List Name) : Type 0 where
    name : Name
    object : Object
    listed : Listed name ns
    within : Within t name
    there : at s name ≡ Some object

  module _ (changes : List Change) (e : Entry) where
    core_there : (c : ℕ) (a : Action) (ns : List Name) (found : Option Core) → slice_get s.cores c ≡ found →
        outcome s (core_turn c a found) ≡ did changes e → IsSomeThere (a_core c ∷ ns)
    core_there c a ns None h k = never _ changes e refl k
    core_there c a ns (Some x) h k = record {
      name = a_core c;
      object = core x;
      listed = inl refl;
      within = subst (λ n. c < n) sizes.cores (slice_get_within s.cores c x h);
      there = ap (option_map core) h;
    }

    script_there : (ns : List Name) → IsSomeThere (the_script ∷ ns)
    script_there ns = record { name = the_script; object = script s.script; listed = inl refl; within = tt; there = refl }

    actor_there : (polls : Script → ℕ) (who : Actor) (a : Action) → outcome s (turn_of polls who a) ≡ did changes e →
        IsSomeThere (looks s (turn_of polls who a))
    unfolding turn_of
    actor_there polls (actor.Core c) a k = core_there c.0 a _ (slice_get s.cores c.0) refl k
    actor_there polls actor.Script action.Script k = script_there _
    actor_there polls actor.Script action.Raise k = script_there _
    actor_there polls actor.Script action.Step k = never _ changes e refl k
    actor_there polls actor.Script action.Order k = never _ changes e refl k
    actor_there polls actor.Script (action.Intake l) k = never _ changes e refl k
    actor_there polls actor.Script (action.Wake b d) k = never _ changes e refl k

  touched_there : (e : Entry) → IsLawful s e → IsSomeThere (touched s e)
  unfolding touched IsLawful
  touched_there e h = actor_there h.0 e (polls_of e.what) e.actor (action_of e.what) h.1

  among_number : (n : Name) (ns : List Name) → Listed n ns → IsAmong (object_number t n) (map (object_number t) ns)
  among_number n [] h = absurd h
  among_number n (m ∷ ns) (inl e) = inl (ap (object_number t) e)
  among_number n (m ∷ ns) (inr h) = inr (among_number n ns h)

  -- a lawful entry touches an object that is there
  pub touches_there : (e : Entry) → IsLawful s e → (i : ℕ) × (o : Object) × IsAmong i (touched_numbers t s e) × (at_number t s i ≡ Some o)
  unfolding touched_numbers at_number
  touches_there e h =
      let x = touched_there e h in (
        object_number t x.name,
        x.object,
        among_number x.name (touched s e) x.listed,
        ap (λ (n : Option Name). bind n (at s)) (name_at-number t x.name x.within) ∙ x.there,
      )
