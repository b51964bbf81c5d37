-- What a turn of the script does to its log.
use Rattle.std.proofs.Common.{ℕ, List, [], ◌∷◌, ◌++◌, refl, sym, ap, ◌∙◌, append_assoc}
use Rattle.std.proofs.lemmas.List.{append-nil}
use Rattle.dc_base.specs.declared.actions.Action.TheVariants as action
use Rattle.dc_base.specs.declared.actions.Actor.TheVariants as actor
use Rattle.dc_hands.specs.declared.answers.Turned.{Turned}
use Rattle.dc_hands.specs.declared.answers.Turned.TheVariants as turned
use Rattle.dc_hands.specs.declared.hands.ScriptHand.{ScriptHand}
use Rattle.dc_hands.specs.Answers.{AnswersTurn}
use Rattle.dc_hands.specs.Machines.{Staged, Passing, state_after}
use Rattle.dc_journal.specs.declared.merging.Logged.{Logged}
use Rattle.dc_logs.specs.Recorded.{Recorded}
use Rattle.dc_logs.specs.Rests.{AllOf}
use Rattle.dc_script_turns.specs.Scripting.{AnswersPolls, IsNoUnmet}
use Rattle.dc_script_turns.proofs.ScriptEntries.{is_no_unmet}
use Rattle.dc_crew.specs.ScriptWorks.{GrowsQuietly, IsNoUnmetTurn}

all_join : {A : Type 0} (P : A → Type 0) (xs ys : List A) → AllOf P xs → AllOf P ys → AllOf P (xs ++ ys)
all_join P [] ys a b = b
all_join P (x ∷ xs) ys a b = (a.0, all_join P xs ys a.1 b)

pub grows_not : (m : Recorded) → GrowsQuietly m m
grows_not m = record { more = []; entries = sym (append-nil m.entries); quiet = tt; room = refl }

pub grows_through : (m n o : Recorded) → GrowsQuietly m n → GrowsQuietly n o → GrowsQuietly m o
grows_through m n o p q = record {
  more = p.more ++ q.more;
  entries = q.entries ∙ (ap (λ es. es ++ q.more) p.entries ∙ append_assoc m.entries p.more q.more);
  quiet = all_join (λ (x : Logged). IsNoUnmet x.entry.what) p.more q.more p.quiet q.quiet;
  room = q.room ∙ p.room;
}

module _ {D : Type 0} (st : Staged D) (k l : Passing D) where
  -- a raise ends no await
  pub raises_quietly : (polls : ℕ) (r : Turned) → AnswersTurn st k l polls actor.Script action.Raise r → IsNoUnmetTurn r
  raises_quietly polls (turned.Did e t) x = is_no_unmet (state_after st x.before) polls action.Raise x.changes e x.turn tt
  raises_quietly polls (turned.NotEnabled why) x = tt
  raises_quietly polls turned.Spent x = tt
  raises_quietly polls (turned.Busy b) x = tt

  -- no poll but the last ends an await in vain
  pub polls_quietly : (h i : ScriptHand) (most : ℕ) (r : Turned) → AnswersPolls st k l h i most r → IsNoUnmetTurn r
  polls_quietly h i most (turned.Did e t) x = x.1
  polls_quietly h i most (turned.NotEnabled why) x = tt
  polls_quietly h i most turned.Spent x = tt
  polls_quietly h i most (turned.Busy b) x = tt
