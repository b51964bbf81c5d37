-- What a turn answers, seen from a pass before it.
use Rattle.std.proofs.Common.{◌≡◌, ℕ, List, [], ◌∷◌, ◌++◌, sym, ap, ◌∙◌, subst}
use Rattle.dc_base.specs.declared.actions.Action.{Action}
use Rattle.dc_base.specs.declared.actions.Action.TheVariants as action
use Rattle.dc_base.specs.declared.actions.Actor.{Actor}
use Rattle.dc_base.specs.declared.actions.Actor.TheVariants as actor
use Rattle.dc_base.specs.declared.entries.Entry.{Entry}
use Rattle.dc_base.specs.declared.numbers.CoreNo.{CoreNo}
use Rattle.dc_base.specs.Changes.{Name, Object}
use Rattle.dc_stage.specs.History.{own}
use Rattle.dc_stage.specs.Numbers.{without}
use Rattle.dc_stage.specs.Passes.{having_put}
use Rattle.dc_logs.proofs.Beginnings.{prefix_through}
use Rattle.dc_hands.specs.declared.answers.Turned.{Turned}
use Rattle.dc_hands.specs.declared.answers.Turned.TheVariants as turned
use Rattle.dc_hands.specs.Machines.{Staged, Passing}
use Rattle.dc_hands.specs.Holding.{Gets}
use Rattle.dc_hands.specs.Answers.{AnswersTurn, IsNoEntry}
use Rattle.dc_core_turns.specs.Ordering.{Acknowledges}

module _ {D : Type 0} (st : Staged D) (k l : Passing D) (n : Name) (o : Object) (gets : Gets st k l n o) where
  same_actor : l.actor ≡ k.actor
  same_actor = ap (λ (q : Passing D). q.actor) gets.same

  same_refused : l.refused ≡ k.refused
  same_refused = ap (λ (q : Passing D). q.refused) gets.same

  -- what was answered after an object was taken is answered from before it too
  pub answers_taken : (p : Passing D) (polls : ℕ) (who : Actor) (a : Action) (r : Turned) → AnswersTurn st l p polls who a r → AnswersTurn st k p polls who a r
  answers_taken p polls who a (turned.Did e t) made = record {
    before = made.before;
    sees = prefix_through k.seen l.seen made.before gets.on.sees made.sees;
    others = subst (λ b. own b made.before ≡ own b l.seen) same_actor made.others ∙ gets.on.mine;
    seen = subst (λ b. p.seen ≡ made.before ++ (b, e) ∷ []) same_actor made.seen;
    place = made.place;
    lawful = made.lawful;
    refused = made.refused ∙ same_refused;
    changes = made.changes;
    turn = made.turn;
  }
  answers_taken p polls who a (turned.NotEnabled why) fails = record {
    others = subst (λ b. own b p.seen ≡ own b l.seen) same_actor fails.others ∙ gets.on.mine;
    refused = fails.refused ∙ same_refused;
    turn = fails.turn;
  }
  answers_taken p polls who a turned.Spent fails = record {
    others = subst (λ b. own b p.seen ≡ own b l.seen) same_actor fails.others ∙ gets.on.mine;
    refused = fails.refused ∙ same_refused;
    turn = fails.turn;
  }
  answers_taken p polls who a (turned.Busy b) was = record {
    others = subst (λ b. own b p.seen ≡ own b l.seen) same_actor was.others ∙ gets.on.mine;
    refused = was.refused ∙ ap (λ rs. (b.object, b.by) ∷ rs) same_refused;
    other = λ q. was.other (q ∙ sym same_actor);
    looked = was.looked;
  }

module _ {D : Type 0} (st : Staged D) where
  -- what is put back afterwards changes no answer
  pub answers_holding : (k l p : Passing D) (hs : List ℕ) (polls : ℕ) (who : Actor) (a : Action) (r : Turned) → p ≡ record l { holds = hs }
      → AnswersTurn st k l polls who a r → AnswersTurn st k p polls who a r
  answers_holding k l p hs polls who a r put h = subst (λ (q : Passing D). AnswersTurn st k q polls who a r) (sym put) (same_put r h)
    where
      same_put : (r : Turned) → AnswersTurn st k l polls who a r → AnswersTurn st k (record l { holds = hs }) polls who a r
      same_put (turned.Did e t) made = record {
        before = made.before;
        sees = made.sees;
        others = made.others;
        seen = made.seen;
        place = made.place;
        lawful = made.lawful;
        refused = made.refused;
        changes = made.changes;
        turn = made.turn;
      }
      same_put (turned.NotEnabled why) fails = record { others = fails.others; refused = fails.refused; turn = fails.turn }
      same_put turned.Spent fails = record { others = fails.others; refused = fails.refused; turn = fails.turn }
      same_put (turned.Busy b) was = record { others = was.others; refused = was.refused; other = was.other; looked = was.looked }

  pub answers_put : (k l p : Passing D) (i polls : ℕ) (who : Actor) (a : Action) (r : Turned) → p ≡ having_put l i → AnswersTurn st k l polls who a r
      → AnswersTurn st k p polls who a r
  answers_put k l p i polls who a r put h = answers_holding k l p (without i l.holds) polls who a r put h

  -- an order that was acknowledged is answered
  pub answers_acknowledged : (k l : Passing D) (c : CoreNo) (e : Entry) (r : Turned) → Acknowledges st k l c e r → AnswersTurn st k l 0 (actor.Core c) action.Order r
  answers_acknowledged k l c e r acks = subst (AnswersTurn st k l 0 (actor.Core c) action.Order) (sym acks.did) acks.made

  -- and it made an entry
  pub entry_acknowledged : {A : Type 0} (k l : Passing D) (c : CoreNo) (e : Entry) (r : Turned) → Acknowledges st k l c e r → IsNoEntry r → A
  entry_acknowledged k l c e r acks none = absurd (subst IsNoEntry acks.did none)
