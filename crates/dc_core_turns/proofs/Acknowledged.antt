-- An order was carried out, its entry made, and the mailbox put back.
use Rattle.std.proofs.Common.{◌≡◌, ℕ, true, sym, ap, ◌∙◌, subst}
use Rattle.std.specs.Option.{option_map}
use Rattle.dc_base.specs.declared.actions.Action.TheVariants as action
use Rattle.dc_base.specs.declared.actions.Actor.TheVariants as actors
use Rattle.dc_base.specs.declared.entries.Entry.{Entry}
use Rattle.dc_base.specs.declared.numbers.CoreNo.{CoreNo}
use Rattle.dc_base.specs.Changes.{Name, a_mailbox, mailbox, at}
use Rattle.dc_base.specs.Histories.{actor_number, touched, IsLawful, Listed}
use Rattle.dc_base.specs.States.{Mailbox}
use Rattle.dc_stage.specs.Numbers.{has, without}
use Rattle.dc_stage.specs.Passes.{having_put}
use Rattle.dc_hands.specs.declared.answers.Turned.{Turned}
use Rattle.dc_hands.specs.declared.answers.Turned.TheVariants as turned
use Rattle.dc_hands.specs.Machines.{Staged, Passing, state_after, number_of}
use Rattle.dc_hands.specs.Holding.{Has, Commits}
use Rattle.dc_hands.specs.Answers.{Made}
use Rattle.dc_core_turns.specs.Ordering.{CarriesOut, Acknowledges}
use Rattle.dc_hands.proofs.Seeing.{goes_made, goes_put, goes_through}
use Rattle.dc_core_turns.proofs.CoreEntries.{by_core, made_lawful, made_next, made_alike}

module _ {D : Type 0} (st : Staged D) (k : Passing D) (c : CoreNo) (m : Mailbox) (e : Entry) (h : CarriesOut st k c m e) where
  pub entry_actor : actor_number st.scene.settings e.actor ≡ k.actor
  entry_actor = ap (actor_number st.scene.settings) (by_core (state_after st k.seen) c action.Order h.changes e h.does) ∙ sym h.actor

  pub entry_lawful : IsLawful (state_after st k.seen) e
  entry_lawful = made_lawful (state_after st k.seen) c action.Order h.changes e h.does

  pub entry_held : (n : Name) → Listed n (touched (state_after st k.seen) e) → has (number_of st n) k.holds ≡ true
  entry_held n l = (h.held n l).1

  module _ (l : Passing D) (ticket : ℕ) (commits : Commits st k l e ticket) where
    -- the mailbox is held, as the order left it
    pub mailbox_left : Has st l (a_mailbox c.0) (mailbox m)
    mailbox_left =
        let held = h.held (a_mailbox c.0) h.mine in
        record {
          within = held.0;
          held = ap (λ (q : Passing D). has (number_of st (a_mailbox c.0)) q.holds) commits.same ∙ held.1;
          stands =
              commits.kept (a_mailbox c.0) held.0 held.1
              ∙ (ap (λ u. at u (a_mailbox c.0)) (made_next (state_after st k.seen) c action.Order h.changes e h.does)
              ∙ ap (option_map mailbox) h.mailbox);
        }

    made_now : (i : ℕ) → Made st k (having_put l i) 0 (actors.Core c) action.Order e ticket
    made_now i = record {
      before = commits.before;
      sees = commits.on.sees;
      others = commits.on.mine;
      seen = ap (λ (q : Passing D). q.seen) commits.same;
      place = commits.place;
      lawful = commits.lawful;
      refused = ap (λ (q : Passing D). q.refused) commits.same;
      changes = h.changes;
      turn = made_alike (state_after st k.seen) c action.Order h.changes e h.does (state_after st commits.before)
          (λ n w. let held = h.held n w in commits.on.kept n held.0 held.1);
    }

    pub acknowledged : (p : Passing D) (r : Turned) → p ≡ having_put l (number_of st (a_mailbox c.0)) → r ≡ turned.Did e (record { 0 = ticket })
        → Acknowledges st k p c e r
    acknowledged p r put is = record {
      on = goes_through k l p (goes_made st k l e ticket commits) (goes_put l p (number_of st (a_mailbox c.0)) put);
      ticket = ticket;
      did = is;
      made = subst (λ (q : Passing D). Made st k q 0 (actors.Core c) action.Order e ticket) (sym put) (made_now (number_of st (a_mailbox c.0)));
      holds = ap (λ (q : Passing D). q.holds) put ∙ ap (λ (q : Passing D). without (number_of st (a_mailbox c.0)) q.holds) commits.same;
      kept = λ n w i. ap (λ (q : Passing D). at (state_after st q.seen) n) put ∙ commits.kept n w i;
    }
