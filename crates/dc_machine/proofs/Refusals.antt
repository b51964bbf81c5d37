-- Actions that make no entry, and elements at an index.
use Rattle.std.proofs.Common.{◌≡◌, ℕ, ◌<◌, List, Some, refl, sym, ap, ◌∙◌, subst, length}
use Rattle.std.specs.Prelude.{slice_get, slice_index_or}
use Rattle.std.proofs.lemmas.Option.{slice_get-get_or}
use Rattle.dc_base.specs.declared.entries.Reason.{Reason}
use Rattle.dc_base.specs.States.{State}
use Rattle.dc_base.specs.Turns.{Outcome, not_enabled}
use Rattle.dc_bodies.specs.declared.stops.Stepped.{Stepped}
use Rattle.dc_bodies.specs.declared.stops.Stepped.TheVariants as stepped
use Rattle.dc_machine.specs.Answers.{Answers}

pub refuses : (s : State) (why : Reason) (o : Outcome) → o ≡ not_enabled why → Answers (stepped.NotEnabled why) s s o
refuses s why o e = subst (λ q. Answers (stepped.NotEnabled why) s s q) (sym e) (refl, refl)

pub answers_as : (r : Stepped) (s new : State) (o p : Outcome) → o ≡ p → Answers r s new p → Answers r s new o
answers_as r s new o p e h = subst (λ q. Answers r s new q) (sym e) h

-- what stands at an index
pub at_index : {A : Type 0} (xs : List A) (i : ℕ) (x : A) → i < length xs → x ≡ slice_index_or xs i x → slice_get xs i ≡ Some x
at_index xs i x h e = slice_get-get_or xs i x h ∙ ap Some (sym e)
