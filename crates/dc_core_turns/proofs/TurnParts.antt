-- A turn in its parts: objects are taken, the turn is made, and the objects go back.
use Rattle.std.proofs.Common.{◌≡◌, ℕ, List, [], ◌∷◌, ◌++◌, sym, ap, ◌∙◌, subst}
use mathlib.Core.List.{IsPrefix}
use Rattle.dc_base.specs.declared.actions.Action.{Action}
use Rattle.dc_base.specs.declared.actions.Actor.{Actor}
use Rattle.dc_base.specs.declared.actions.Actor.TheVariants as actor
use Rattle.dc_base.specs.declared.entries.Entry.{Entry}
use Rattle.dc_base.specs.Changes.{Name, Object}
use Rattle.dc_base.specs.Cores.{core_step, turn_of}
use Rattle.dc_base.specs.Histories.{Listed}
use Rattle.dc_base.specs.Turns.{Outcome, not_enabled, spent, looks}
use Rattle.dc_stage.specs.History.{Log, own}
use Rattle.dc_stage.specs.Passes.{having_put}
use Rattle.dc_touch.specs.Within.{Within}
use Rattle.dc_logs.proofs.Beginnings.{prefix_same, prefix_through}
use Rattle.dc_hands.specs.declared.answers.Turned.{Turned}
use Rattle.dc_hands.specs.declared.answers.Turned.TheVariants as turned
use Rattle.dc_hands.specs.declared.hands.CoreHand.{CoreHand}
use Rattle.dc_hands.specs.declared.takes.Busy.{Busy}
use Rattle.dc_hands.specs.Answers.{Made, Fails, WasRefused, AnswersTurn}
use Rattle.dc_core_turns.specs.Beside.{HoldsBeside}
use Rattle.dc_hands.specs.Gathering.{GoesQuietly}
use Rattle.dc_hands.specs.Holding.{GoesOn, Gets}
use Rattle.dc_hands.specs.Machines.{Staged, Passing, IsOpened, state_after, number_of, IsLawfulHere}
use Rattle.dc_core_turns.specs.Turning.{TakesTurn}
use Rattle.dc_core_turns.proofs.BesideHands.{beside_put}
use Rattle.dc_hands.proofs.HeldHands.{IsBeyond}
use Rattle.dc_hands.proofs.Seeing.{goes_taken, goes_through}

-- the pass is the same but for what it holds
abbrev pub IsBut : {D : Type 0} → Passing D → Passing D → Type 0
IsBut l m = m ≡ record l { holds = m.holds }

module _ {D : Type 0} (st : Staged D) where
  pub taken_quietly : (k l : Passing D) (n : Name) (o : Object) → Gets st k l n o → GoesQuietly k l
  taken_quietly k l n o g = record { on = goes_taken st k l n o g; mine = g.on.mine; refused = ap (λ (p : Passing D). p.refused) g.same }

  -- the turn after a pass went on quietly, and what it holds changed after the turn
  module _ (j k l m : Passing D) (quiet : GoesQuietly j k) (but : IsBut l m) (polls : ℕ) (who : Actor) (a : Action) where
    seen_is : m.seen ≡ l.seen
    seen_is = ap (λ (p : Passing D). p.seen) but

    refused_is : m.refused ≡ l.refused
    refused_is = ap (λ (p : Passing D). p.refused) but

    actor_is : k.actor ≡ j.actor
    actor_is = quiet.on.actor

    own_is : (log : Log Entry) → own k.actor log ≡ own k.actor k.seen → own j.actor log ≡ own j.actor j.seen
    own_is log e = subst (λ c. own c log ≡ own c k.seen) actor_is e ∙ quiet.mine

    made_around : (e : Entry) (t : ℕ) → Made st k l polls who a e t → Made st j m polls who a e t
    made_around e t made = record {
      before = made.before;
      sees = prefix_through j.seen k.seen made.before quiet.on.sees made.sees;
      others = own_is made.before made.others;
      seen = seen_is ∙ subst (λ c. l.seen ≡ made.before ++ (c, e) ∷ []) actor_is made.seen;
      place = made.place;
      lawful = subst (IsLawfulHere st) (sym seen_is) made.lawful;
      refused = refused_is ∙ (made.refused ∙ quiet.refused);
      changes = made.changes;
      turn = made.turn;
    }

    fails_around : (o : Outcome) → Fails st k l polls who a o → Fails st j m polls who a o
    fails_around o f = record {
      others = own_is m.seen (ap (own k.actor) seen_is ∙ f.others);
      refused = refused_is ∙ (f.refused ∙ quiet.refused);
      turn = ap (λ log. core_step (state_after st log) polls who a) seen_is ∙ f.turn;
    }

    refused_around : (b : Busy) → WasRefused st k l polls who a b → WasRefused st j m polls who a b
    refused_around b r = record {
      others = own_is m.seen (ap (own k.actor) seen_is ∙ r.others);
      refused = refused_is ∙ (r.refused ∙ ap (λ rs. (b.object, b.by) ∷ rs) quiet.refused);
      other = λ e. r.other (e ∙ sym actor_is);
      looked = (r.looked.0, r.looked.1, subst (λ log. Listed r.looked.0 (looks (state_after st log) (turn_of (λ t. polls) who a))) (sym seen_is) r.looked.2);
    }

    pub answers_around : (r : Turned) → AnswersTurn st k l polls who a r → AnswersTurn st j m polls who a r
    answers_around (turned.Did e t) h = made_around e t.0 h
    answers_around (turned.NotEnabled why) h = fails_around (not_enabled why) h
    answers_around turned.Spent h = fails_around spent h
    answers_around (turned.Busy b) h = refused_around b h

  goes_but : (l m : Passing D) → IsBut l m → GoesOn l m
  goes_but l m but = record {
    table = ap (λ (p : Passing D). p.table_id) but;
    scene = ap (λ (p : Passing D). p.scene) but;
    actor = ap (λ (p : Passing D). p.actor) but;
    first = ap (λ (p : Passing D). p.first) but;
    made = ap (λ (p : Passing D). p.made) but;
    joined = ap (λ (p : Passing D). p.joined) but;
    sees = subst (IsPrefix l.seen) (sym (ap (λ (p : Passing D). p.seen) but)) (prefix_same l.seen);
  }

  -- the turn of a core, where objects were taken before it and put back after it
  pub takes_around : (j k l m : Passing D) (h g : CoreHand D) (ns : List Name) (a : Action) (r : Turned) → GoesQuietly j k → TakesTurn st k l h g ns a r → IsBut l m →
      HoldsBeside st m g [] → TakesTurn st j m h g [] a r
  takes_around j k l m h g ns a r quiet turn but hand = record {
    hand = hand;
    number = turn.number;
    goes = goes_through j k m quiet.on (goes_through k l m turn.goes (goes_but l m but));
    turn = answers_around j k l m quiet but 0 (actor.Core h.number) a r turn.turn;
    same = turn.same;
  }

  -- the same with one object
  pub takes_with : IsOpened st → (j k l m : Passing D) (h g : CoreHand D) (n : Name) (o : Object) (a : Action) (r : Turned) → Gets st j k n o → TakesTurn st k l h g (n ∷ []) a r →
      Within st.scene.settings n → IsBeyond g.number.0 g.core.share n → m ≡ having_put l (number_of st n) → TakesTurn st j m h g [] a r
  takes_with opened j k l m h g n o a r got turn within far put =
      takes_around j k l m h g (n ∷ []) a r (taken_quietly j k n o got) turn
      (put ∙ ap (λ xs. record l { holds = xs }) (sym (ap (λ (p : Passing D). p.holds) put)))
      (beside_put st opened l m g n turn.hand within far put)
