-- The script's turn step by step: it holds the script, takes an object, makes its entry or not, and puts the object back.
use Rattle.std.proofs.Common.{◌≡◌, ◌≢◌, ◌≤◌, ℕ, List, [], ◌∷◌, ◌++◌, Option, Some, None, refl, sym, ap, ◌∙◌, subst}
use Rattle.std.specs.Prelude.{slice_get}
use Rattle.std.specs.Option.{option_map}
use Rattle.dc_base.specs.declared.actions.Action.{Action}
use Rattle.dc_base.specs.declared.actions.Actor.TheVariants as actor
use Rattle.dc_base.specs.declared.entries.Entry.{Entry}
use Rattle.dc_base.specs.declared.entries.Reason.{Reason}
use Rattle.dc_base.specs.Changes.{Name, Object, Change, a_console, a_line, a_mailbox, the_script, at, console, mailbox, script, wire}
use Rattle.dc_base.specs.Cores.{core_step, turn_of}
use Rattle.dc_base.specs.Histories.{Listed, next}
use Rattle.dc_base.specs.Lines.{Wire}
use Rattle.dc_base.specs.States.{Script, Mailbox}
use Rattle.dc_base.specs.Turns.{did, looks, not_enabled}
use Rattle.dc_bodies.specs.Scripted.{IsNoPoll}
use Rattle.dc_logs.proofs.Beginnings.{prefix_through}
use Rattle.dc_stage.specs.History.{Log, own}
use Rattle.dc_stage.specs.Passes.{having_put}
use Rattle.dc_stage.specs.declared.stage.Ticket.{Ticket}
use Rattle.dc_touch.specs.Within.{Within}
use Rattle.dc_hands.specs.declared.answers.Turned.{Turned}
use Rattle.dc_hands.specs.declared.answers.Turned.TheVariants as turned
use Rattle.dc_hands.specs.declared.hands.ScriptHand.{ScriptHand}
use Rattle.dc_hands.specs.declared.takes.Busy.{Busy}
use Rattle.dc_hands.specs.Answers.{AnswersTurn, Fails, Made, WasRefused}
use Rattle.dc_hands.specs.Hands.{HoldsScript}
use Rattle.dc_hands.specs.Holding.{Commits, Gets, GoesOn, Has, Misses, SeesOn}
use Rattle.dc_hands.specs.Machines.{IsLawfulHere, IsOpened, Passing, Staged, number_of, state_after}
use Rattle.dc_script_turns.specs.Scripting.{Acts, HoldsBeside, IsNoUnmet}
use Rattle.dc_hands.proofs.HeldHands.{holds_script}
use Rattle.dc_hands.proofs.HeldNames.{AreWithin, just_back, just_made, just_missed, just_taken}
use Rattle.dc_hands.proofs.Seeing.{goes_made, goes_missed, goes_now, goes_put, goes_taken, goes_through, has_beside, has_left, has_made, has_missed, sees_now}

mailbox_in : (o : Option Mailbox) (m : Mailbox) → option_map mailbox o ≡ Some (mailbox m) → o ≡ Some m
mailbox_in None m h = cc
mailbox_in (Some x) m h = cc

line_in : (o : Option Wire) (w : Wire) → option_map wire o ≡ Some (wire w) → o ≡ Some w
line_in None w h = cc
line_in (Some x) w h = cc

console_in : (o : Option (List ℕ)) (ws : List ℕ) → option_map console o ≡ Some (console ws) → o ≡ Some ws
console_in None ws h = cc
console_in (Some x) ws h = cc

module _ {D : Type 0} (st : Staged D) where
  -- what a pass holds stands so too in the state after what it sees on
  module _ (k : Passing D) (log : Log Entry) (on : SeesOn st k log) where
    pub kept_at : (n : Name) (o : Object) → Has st k n o → at (state_after st log) n ≡ Some o
    kept_at n o h = on.kept n h.within h.held ∙ h.stands

    pub kept_script : (t : Script) → Has st k the_script (script t) → (state_after st log).script ≡ t
    kept_script t h = let e = kept_at the_script (script t) h in cc

    pub kept_mailbox : (c : ℕ) (m : Mailbox) → Has st k (a_mailbox c) (mailbox m) → slice_get (state_after st log).mailboxes c ≡ Some m
    kept_mailbox c m h = mailbox_in (slice_get (state_after st log).mailboxes c) m (kept_at (a_mailbox c) (mailbox m) h)

    pub kept_line : (l : ℕ) (w : Wire) → Has st k (a_line l) (wire w) → slice_get (state_after st log).lines l ≡ Some w
    kept_line l w h = line_in (slice_get (state_after st log).lines l) w (kept_at (a_line l) (wire w) h)

    pub kept_console : (b : ℕ) (ws : List ℕ) → Has st k (a_console b) (console ws) → slice_get (state_after st log).consoles b ≡ Some ws
    kept_console b ws h = console_in (slice_get (state_after st log).consoles b) ws (kept_at (a_console b) (console ws) h)

  -- a state is the same where a pass has put an object back
  pub seen_put : (k l : Passing D) (i : ℕ) → l ≡ having_put k i → l.seen ≡ k.seen
  seen_put k l i e = ap (λ (p : Passing D). p.seen) e

  pub state_put : (k l : Passing D) (i : ℕ) → l ≡ having_put k i → state_after st l.seen ≡ state_after st k.seen
  state_put k l i e = ap (state_after st) (seen_put k l i e)

  -- the pass goes on from k without an entry, and holds the script, which stands so, and these objects; these are its refused takes
  pub record Reaches (k l : Passing D) (t : Script) (ns : List Name) (r : List (ℕ × ℕ)) : Type 0 where
    pub goes : GoesOn k l
    pub mine : own k.actor l.seen ≡ own k.actor k.seen
    pub refused : l.refused ≡ r
    pub holds : HoldsBeside st l t ns

  -- the pass goes on from k with an entry, and then holds the script, which stands so, and these objects
  pub record Enters (k l : Passing D) (t : Script) (ns : List Name) (polls : ℕ) (a : Action) (e : Entry) (n : ℕ) : Type 0 where
    pub made : Made st k l polls actor.Script a e n
    pub goes : GoesOn k l
    pub holds : HoldsBeside st l t ns

  -- an object that is put back is one of the machine, and none of those that stay
  pub record IsApartFrom (n : Name) (ns : List Name) : Type 0 where
    pub within : Within st.scene.settings n
    pub others : AreWithin st (ns ++ the_script ∷ [])
    pub apart : Listed n (ns ++ the_script ∷ []) → ⊥
    pub number : number_of st the_script ≡ number_of st n → ⊥

  module _ (opened : IsOpened st) where
    -- the turn begins
    pub begun : (k : Passing D) (h : ScriptHand) → HoldsScript st k h → HoldsBeside st k h.script []
    begun k h holds = record { actor = holds.actor; lawful = holds.lawful; stands = holds_script st opened k h holds; holds = holds.holds }

  module _ (k : Passing D) (t : Script) (ns : List Name) (h : HoldsBeside st k t ns) where
    -- nothing was taken
    pub stays : Reaches k k t ns k.refused
    stays = record { goes = goes_now k; mine = refl; refused = refl; holds = h }

    -- an object was taken
    pub takes : (l : Passing D) (n : Name) (o : Object) → Gets st k l n o → Reaches k l t (n ∷ ns) k.refused
    takes l n o g = record {
      goes = goes_taken st k l n o g;
      mine = g.on.mine;
      refused = ap (λ (p : Passing D). p.refused) g.same;
      holds = record {
        actor = (goes_taken st k l n o g).actor ∙ h.actor;
        lawful = g.lawful;
        stands = has_beside st k l n the_script o (script t) g h.stands;
        holds = just_taken st k l n o (ns ++ the_script ∷ []) h.holds g;
      };
    }

    -- another actor had an object
    pub misses : (l : Passing D) (n : Name) (b : Busy) → Misses st k l n b → Reaches k l t ns ((b.object, b.by) ∷ k.refused)
    misses l n b g =
        let same = ap (λ (p : Passing D). p.seen) g.same in
        record {
          goes = goes_missed st k l n b g;
          mine = ap (own k.actor) same;
          refused = ap (λ (p : Passing D). p.refused) g.same;
          holds = record {
            actor = (goes_missed st k l n b g).actor ∙ h.actor;
            lawful = subst (IsLawfulHere st) (sym same) h.lawful;
            stands = has_missed st k l n the_script b (script t) g h.stands;
            holds = just_missed st k l n b (ns ++ the_script ∷ []) h.holds g;
          };
        }

  put_holds : (l m : Passing D) (t : Script) (n : Name) (ns : List Name) → HoldsBeside st l t (n ∷ ns) → IsApartFrom n ns → m ≡ having_put l (number_of st n)
      → HoldsBeside st m t ns
  put_holds l m t n ns h far e = record {
    actor = ap (λ (p : Passing D). p.actor) e ∙ h.actor;
    lawful = subst (IsLawfulHere st) (sym (seen_put l m (number_of st n) e)) h.lawful;
    stands = has_left st l m n the_script (script t) e far.number h.stands;
    holds = just_back st l m n (ns ++ the_script ∷ []) h.holds far.within far.others far.apart e;
  }

  -- an object goes back, where no entry was made
  pub puts : (k l m : Passing D) (t : Script) (n : Name) (ns : List Name) (r : List (ℕ × ℕ)) → Reaches k l t (n ∷ ns) r → IsApartFrom n ns
      → m ≡ having_put l (number_of st n) → Reaches k m t ns r
  puts k l m t n ns r h far e = record {
    goes = goes_through k l m h.goes (goes_put l m (number_of st n) e);
    mine = ap (own k.actor) (seen_put l m (number_of st n) e) ∙ h.mine;
    refused = ap (λ (p : Passing D). p.refused) e ∙ h.refused;
    holds = put_holds l m t n ns h.holds far e;
  }

  -- the entry is made
  pub enters : (k l m : Passing D) (t u : Script) (ns : List Name) (polls : ℕ) (a : Action) (changes : List Change) (e : Entry) (n : ℕ)
      → Reaches k l t ns k.refused → (c : Commits st l m e n) → core_step (state_after st c.before) polls actor.Script a ≡ did changes e
      → at (next (state_after st l.seen) e) the_script ≡ Some (script u) → Enters k m u ns polls a e n
  enters k l m t u ns polls a changes e n h c turn made =
      let same : l.actor ≡ k.actor = h.goes.actor in
      record {
        made = record {
          before = c.before;
          sees = prefix_through k.seen l.seen c.before h.goes.sees c.on.sees;
          others = subst (λ i. own i c.before ≡ own i l.seen) same c.on.mine ∙ h.mine;
          seen = ap (λ (p : Passing D). p.seen) c.same ∙ ap (λ i. c.before ++ (i, e) ∷ []) same;
          place = c.place;
          lawful = c.lawful;
          refused = ap (λ (p : Passing D). p.refused) c.same ∙ h.refused;
          changes = changes;
          turn = turn;
        };
        goes = goes_through k l m h.goes (goes_made st l m e n c);
        holds = record {
          actor = (goes_made st l m e n c).actor ∙ h.holds.actor;
          lawful = c.lawful;
          stands = has_made st l m e n the_script (script t) (script u) c h.holds.stands made;
          holds = just_made st l m e n (ns ++ the_script ∷ []) h.holds.holds c;
        };
      }

  made_put : (k l m : Passing D) (polls : ℕ) (a : Action) (e : Entry) (n i : ℕ) → Made st k l polls actor.Script a e n → m ≡ having_put l i
      → Made st k m polls actor.Script a e n
  made_put k l m polls a e n i h q =
      subst (λ (p : Passing D). Made st k p polls actor.Script a e n) (sym q)
      (record {
        before = h.before;
        sees = h.sees;
        others = h.others;
        seen = h.seen;
        place = h.place;
        lawful = h.lawful;
        refused = h.refused;
        changes = h.changes;
        turn = h.turn;
      })

  -- an object goes back after the entry
  pub leaves : (k l m : Passing D) (t : Script) (n : Name) (ns : List Name) (polls : ℕ) (a : Action) (e : Entry) (i : ℕ) → Enters k l t (n ∷ ns) polls a e i
      → IsApartFrom n ns → m ≡ having_put l (number_of st n) → Enters k m t ns polls a e i
  leaves k l m t n ns polls a e i h far q = record {
    made = made_put k l m polls a e i (number_of st n) h.made q;
    goes = goes_through k l m h.goes (goes_put l m (number_of st n) q);
    holds = put_holds l m t n ns h.holds far q;
  }

  -- the script alone is held
  pub ended : (k : Passing D) (h : ScriptHand) → HoldsBeside st k h.script [] → h.polls ≤ 1000000000 → HoldsScript st k h
  ended k h holds few = record {
    actor = holds.actor;
    lawful = holds.lawful;
    script = kept_script k k.seen (sees_now st k) h.script holds.stands;
    polls = few;
    holds = holds.holds;
  }

  -- the turn ends with its entry
  pub acts_did : (k l : Passing D) (h i : ScriptHand) (a : Action) (e : Entry) (t : Ticket) → Enters k l i.script [] h.polls a e t.0 → i.polls ≡ h.polls
      → h.polls ≤ 1000000000 → IsNoUnmet e.what → Acts st k l h i a (turned.Did e t)
  acts_did k l h i a e t s same few quiet = record {
    hand = ended l i s.holds (subst (λ n. n ≤ 1000000000) (sym same) few);
    on = s.goes;
    turn = s.made;
    same = λ no. absurd no;
    polls = same;
    quiet = quiet;
  }

  -- what the action of a pass comes to that made no entry
  pub fails : (k l : Passing D) (t : Script) (ns : List Name) (polls : ℕ) (a : Action) (why : Reason) → Reaches k l t ns k.refused
      → core_step (state_after st l.seen) polls actor.Script a ≡ not_enabled why → Fails st k l polls actor.Script a (not_enabled why)
  fails k l t ns polls a why s turn = record { others = s.mine; refused = s.refused; turn = turn }

  -- the turn ends with the reason why there is none
  pub acts_none : (k l : Passing D) (h : ScriptHand) (a : Action) (why : Reason) → Reaches k l h.script [] k.refused → h.polls ≤ 1000000000
      → core_step (state_after st l.seen) h.polls actor.Script a ≡ not_enabled why → IsNoPoll why → Acts st k l h h a (turned.NotEnabled why)
  acts_none k l h a why s few turn quiet = record {
    hand = ended l h s.holds few;
    on = s.goes;
    turn = fails k l h.script [] h.polls a why s turn;
    same = λ no. refl;
    polls = refl;
    quiet = quiet;
  }

  pub refused_at : (k l j m : Passing D) (t : Script) (ns : List Name) (polls : ℕ) (a : Action) (b : Busy) (n : Name) (looked : List Name)
      → Reaches k m t ns ((b.object, b.by) ∷ k.refused) → Misses st l j n b → l.actor ≡ k.actor → looks (state_after st m.seen) (turn_of (λ t. polls) actor.Script a) ≡ looked
      → Listed n looked → WasRefused st k m polls actor.Script a b
  refused_at k l j m t ns polls a b n looked s g same e there = record {
    others = s.mine;
    refused = s.refused;
    other = subst (λ i. b.by ≢ i) same g.other;
    looked = (n, g.number, subst (Listed n) (sym e) there);
  }

  -- the turn ends with an object that another actor had
  pub acts_busy : (k l : Passing D) (h : ScriptHand) (a : Action) (b : Busy) → Reaches k l h.script [] ((b.object, b.by) ∷ k.refused) → h.polls ≤ 1000000000
      → WasRefused st k l h.polls actor.Script a b → Acts st k l h h a (turned.Busy b)
  acts_busy k l h a b s few was = record {
    hand = ended l h s.holds few;
    on = s.goes;
    turn = was;
    same = λ no. refl;
    polls = refl;
    quiet = tt;
  }

  -- what was answered from a later pass on
  pub answers_through : (k l m : Passing D) (t : Script) (ns : List Name) (polls : ℕ) (a : Action) (r : Turned) → Reaches k l t ns k.refused
      → AnswersTurn st l m polls actor.Script a r → AnswersTurn st k m polls actor.Script a r
  answers_through k l m t ns polls a (turned.Did e i) s h = record {
    before = h.before;
    sees = prefix_through k.seen l.seen h.before s.goes.sees h.sees;
    others = subst (λ i. own i h.before ≡ own i l.seen) s.goes.actor h.others ∙ s.mine;
    seen = h.seen ∙ ap (λ i. h.before ++ (i, e) ∷ []) s.goes.actor;
    place = h.place;
    lawful = h.lawful;
    refused = h.refused ∙ s.refused;
    changes = h.changes;
    turn = h.turn;
  }
  answers_through k l m t ns polls a (turned.NotEnabled why) s h = record {
    others = subst (λ i. own i m.seen ≡ own i l.seen) s.goes.actor h.others ∙ s.mine;
    refused = h.refused ∙ s.refused;
    turn = h.turn;
  }
  answers_through k l m t ns polls a turned.Spent s h = record {
    others = subst (λ i. own i m.seen ≡ own i l.seen) s.goes.actor h.others ∙ s.mine;
    refused = h.refused ∙ s.refused;
    turn = h.turn;
  }
  answers_through k l m t ns polls a (turned.Busy b) s h = record {
    others = subst (λ i. own i m.seen ≡ own i l.seen) s.goes.actor h.others ∙ s.mine;
    refused = h.refused ∙ ap (λ rs. (b.object, b.by) ∷ rs) s.refused;
    other = subst (λ i. b.by ≢ i) s.goes.actor h.other;
    looked = h.looked;
  }

  -- a turn that went on from a later pass
  pub acts_through : (k l m : Passing D) (h i : ScriptHand) (ns : List Name) (a : Action) (r : Turned) → Reaches k l h.script ns k.refused → Acts st l m h i a r
      → Acts st k m h i a r
  acts_through k l m h i ns a r s x = record {
    hand = x.hand;
    on = goes_through k l m s.goes x.on;
    turn = answers_through k l m h.script ns h.polls a r s x.turn;
    same = x.same;
    polls = x.polls;
    quiet = x.quiet;
  }
