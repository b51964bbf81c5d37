-- A core makes its entry with its hand and more objects beside it.
use Rattle.std.proofs.Common.{◌≡◌, ℕ, true, List, ◌++◌, Some, refl, sym, ap, ◌∙◌, subst, inl, inr}
use Rattle.std.specs.Prelude.{slice_get}
use Rattle.std.specs.Option.{option_map}
use Rattle.dc_base.specs.declared.actions.Action.{Action}
use Rattle.dc_base.specs.declared.actions.Actor.TheVariants as actor
use Rattle.dc_base.specs.declared.entries.Entry.{Entry}
use Rattle.dc_base.specs.Changes.{Name, a_core, a_block, Object, core, block, at, Change, apply}
use Rattle.dc_base.specs.Cores.{core_step, turn_of}
use Rattle.dc_base.specs.Histories.{actor_number, touched, IsLawful, Listed}
use Rattle.dc_base.specs.Outcomes.{has as in_share}
use Rattle.dc_base.specs.States.{State, Member, Block}
use Rattle.dc_base.specs.Turns.{did, looks}
use Rattle.dc_stage.specs.Numbers.{has}
use Rattle.dc_stage.specs.History.{Log}
use Rattle.dc_hands.specs.declared.answers.Turned.TheVariants as turned
use Rattle.dc_hands.specs.declared.hands.CoreHand.{CoreHand}
use Rattle.dc_stage.specs.declared.stage.Ticket.{Ticket}
use Rattle.dc_hands.specs.Answers.{Made}
use Rattle.dc_core_turns.specs.Beside.{StandsIn, HoldsBeside}
use Rattle.dc_hands.specs.Hands.{objects_of}
use Rattle.dc_hands.specs.Holding.{Has, SeesOn, Commits}
use Rattle.dc_hands.specs.Machines.{Staged, Passing, IsOpened, state_after, number_of}
use Rattle.dc_core_turns.specs.Turning.{TakesTurn}
use Rattle.dc_core_turns.proofs.BesideHands.{block_at, block_held, core_at, core_held, listed_left, listed_parts, listed_right}
use Rattle.dc_hands.proofs.HeldHands.{block_listed, listed_of}
use Rattle.dc_hands.proofs.HeldNames.{just_alike, just_held, just_made}
use Rattle.dc_core_turns.proofs.OwnEntries.{entry_lawful, entry_next, entry_number, entry_touches}
use Rattle.dc_hands.proofs.Seeing.{goes_made, sees_now}

-- two shares have the same blocks
abbrev pub AreSame : List Member → List Member → Type 0
AreSame share other = (b : ℕ) → in_share other b ≡ in_share share b

listed_same : (c : ℕ) (share other : List Member) → AreSame share other → (n : Name) → Listed n (objects_of c share) → Listed n (objects_of c other)
listed_same c share other same n l =
    listed_of c share (λ m. Listed m (objects_of c other)) (inl refl) (λ b i. inr (block_listed other b (same b ∙ i))) n l

beside_same : (c : ℕ) (ns : List Name) (share other : List Member) → AreSame share other → (n : Name) → Listed n (ns ++ objects_of c share) → Listed n (ns ++ objects_of c other)
beside_same c ns share other same n l = elim (listed_parts n ns (objects_of c share) l) [
  | inl k ↦ listed_left n ns (objects_of c other) k
  | inr k ↦ listed_right n ns (objects_of c other) (listed_same c share other same n k)
]

module _ {D : Type 0} (st : Staged D) (opened : IsOpened st) (k : Passing D) (h : CoreHand D) (ns : List Name) (holds : HoldsBeside st k h ns) (a : Action)
    (changes : List Change) (e : Entry) (made : (log : Log Entry) → SeesOn st k log → core_step (state_after st log) 0 (actor.Core h.number) a ≡ did changes e) where
  abbrev now : State
  now = state_after st k.seen

  made_now : core_step now 0 (actor.Core h.number) a ≡ did changes e
  made_now = made k.seen (sees_now st k)

  pub made_actor : actor_number st.scene.settings e.actor ≡ k.actor
  made_actor = entry_number now h.number a changes e made_now st.scene.settings ∙ sym holds.actor

  pub made_lawful : IsLawful now e
  made_lawful = entry_lawful now h.number a changes e made_now

  -- all is held that it touches, where the action looks at these alone
  pub made_held : ((n : Name) → Listed n (looks now (turn_of (λ t. 0) (actor.Core h.number) a)) → Listed n (ns ++ objects_of h.number.0 h.core.share)) →
      (n : Name) → Listed n (touched now e) → has (number_of st n) k.holds ≡ true
  made_held only n l =
      just_held st k n (ns ++ objects_of h.number.0 h.core.share) holds.holds
      (only n (subst (Listed n) (entry_touches now h.number a changes e made_now) l))

  module _ (l : Passing D) (t : Ticket) (c : Commits st k l e t.0) where
    -- what is held stands as the changes make it
    pub made_at : (n : Name) (o : Object) → Has st k n o → at (state_after st l.seen) n ≡ at (apply now changes) n
    made_at n o has_it = c.kept n has_it.within has_it.held ∙ ap (λ s. at s n) (entry_next now h.number a changes e made_now)

    -- an object beside the hand, as the changes make it
    pub made_has : (n : Name) (o p : Object) → Has st k n o → at (apply now changes) n ≡ Some p → Has st l n p
    made_has n o p has_it becomes = record {
      within = has_it.within;
      held = ap (λ (q : Passing D). has (number_of st n) q.holds) c.same ∙ has_it.held;
      stands = made_at n o has_it ∙ becomes;
    }

    made_turn : Made st k l 0 (actor.Core h.number) a e t.0
    made_turn = record {
      before = c.before;
      sees = c.on.sees;
      others = c.on.mine;
      seen = ap (λ (q : Passing D). q.seen) c.same;
      place = c.place;
      lawful = c.lawful;
      refused = ap (λ (q : Passing D). q.refused) c.same;
      changes = changes;
      turn = made c.before c.on;
    }

    module _ (g : CoreHand D) (number : g.number ≡ h.number) (same : AreSame h.core.share g.core.share) (stands : StandsIn g (apply now changes)) where
      made_core : slice_get (state_after st l.seen).cores g.number.0 ≡ Some g.core
      made_core =
          core_at (slice_get (state_after st l.seen).cores g.number.0) g.core
          (subst (λ (c : _). at (state_after st l.seen) (a_core c) ≡ Some (core g.core)) (sym (ap (λ (m : _). m.0) number))
          (made_at (a_core h.number.0) (core h.core) (core_held st opened k h ns holds)
          ∙ (ap (λ (c : _). at (apply now changes) (a_core c)) (sym (ap (λ (m : _). m.0) number)) ∙ ap (option_map core) stands.core)))

      made_block : (b : ℕ) → in_share h.core.share b ≡ true → (x : Block) → slice_get (apply now changes).blocks b ≡ Some x → slice_get (state_after st l.seen).blocks b ≡ Some x
      made_block b i x there =
          let old = holds.stands.blocks b i in
          block_at (slice_get (state_after st l.seen).blocks b) x
          (made_at (a_block b) (block old.0) (block_held st opened k h ns holds b old.0 i old.2) ∙ ap (option_map block) there)

      -- the hand as the changes make it
      pub made_beside : HoldsBeside st l g ns
      made_beside = record {
        actor = ap (λ (q : Passing D). q.actor) c.same ∙ (holds.actor ∙ sym (ap (λ (m : _). m.0) number));
        lawful = c.lawful;
        stands = record {
          core = made_core;
          blocks = λ b i. let x = stands.blocks b i in (x.0, x.1, made_block b (sym (same b) ∙ i) x.0 x.2);
          others = stands.others;
        };
        holds = just_alike st l (ns ++ objects_of h.number.0 h.core.share) (ns ++ objects_of g.number.0 g.core.share)
            (λ n l. subst (λ (m : _). Listed n (ns ++ objects_of m g.core.share)) (sym (ap (λ (m : _). m.0) number)) (beside_same h.number.0 ns h.core.share g.core.share same n l))
            (λ n l. beside_same h.number.0 ns g.core.share h.core.share (λ b. sym (same b)) n
            (subst (λ (m : _). Listed n (ns ++ objects_of m g.core.share)) (ap (λ (m : _). m.0) number) l))
            (just_made st k l e t.0 (ns ++ objects_of h.number.0 h.core.share) holds.holds c);
      }

      -- the core took its turn
      pub takes_made : TakesTurn st k l h g ns a (turned.Did e t)
      takes_made = record {
        hand = made_beside;
        number = number;
        goes = goes_made st k l e t.0 c;
        turn = made_turn;
        same = λ none. absurd none;
      }
