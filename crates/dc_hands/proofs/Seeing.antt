-- The history goes on, and what a pass holds stands as before.
use Rattle.std.proofs.Common.{◌≡◌, ℕ, true, [], ◌∷◌, ◌++◌, Some, refl, sym, ap, ◌∙◌, subst}
use mathlib.Core.List.{IsPrefix}
use Rattle.dc_base.specs.declared.entries.Entry.{Entry}
use Rattle.dc_base.specs.Changes.{Name, Object, at}
use Rattle.dc_base.specs.Histories.{next}
use Rattle.dc_touch.specs.Within.{Within}
use Rattle.dc_stage.specs.Numbers.{has}
use Rattle.dc_stage.specs.History.{Log, own}
use Rattle.dc_stage.specs.Passes.{IsOf, having_seen, having_taken, having_put, refused_by}
use Rattle.dc_stage.proofs.Numbers.{has_tail, has_head, without_other}
use Rattle.dc_logs.proofs.Beginnings.{prefix_same, prefix_through}
use Rattle.dc_hands.specs.declared.takes.Busy.{Busy}
use Rattle.dc_hands.specs.Machines.{Staged, Passing, state_after, number_of}
use Rattle.dc_hands.specs.Holding.{GoesOn, Has, SeesOn, Gets, Misses, Commits}

module _ {D : Type 0} where
  -- a pass goes on as it is
  pub goes_now : (k : Passing D) → GoesOn k k
  goes_now k = record { table = refl; scene = refl; actor = refl; first = refl; made = refl; joined = refl; sees = prefix_same k.seen }

  -- one step after another
  pub goes_through : (k l m : Passing D) → GoesOn k l → GoesOn l m → GoesOn k m
  goes_through k l m g h = record {
    table = h.table ∙ g.table;
    scene = h.scene ∙ g.scene;
    actor = h.actor ∙ g.actor;
    first = h.first ∙ g.first;
    made = h.made ∙ g.made;
    joined = h.joined ∙ g.joined;
    sees = prefix_through k.seen l.seen m.seen g.sees h.sees;
  }

  taken_goes : (k : Passing D) (i : ℕ) (log : Log Entry) → IsPrefix k.seen log → GoesOn k (having_taken k i log)
  taken_goes k i log sees = record { table = refl; scene = refl; actor = refl; first = refl; made = refl; joined = refl; sees = sees }

  refused_goes : (k : Passing D) (i a : ℕ) → GoesOn k (refused_by k i a)
  refused_goes k i a = record { table = refl; scene = refl; actor = refl; first = refl; made = refl; joined = refl; sees = prefix_same k.seen }

  put_goes : (k : Passing D) (i : ℕ) → GoesOn k (having_put k i)
  put_goes k i = record { table = refl; scene = refl; actor = refl; first = refl; made = refl; joined = refl; sees = prefix_same k.seen }

  seen_goes : (k : Passing D) (log : Log Entry) → IsPrefix k.seen log → GoesOn k (having_seen k log)
  seen_goes k log sees = record { table = refl; scene = refl; actor = refl; first = refl; made = refl; joined = refl; sees = sees }

  -- where an object was put back
  pub goes_put : (k l : Passing D) (i : ℕ) → l ≡ having_put k i → GoesOn k l
  goes_put k l i e = subst (GoesOn k) (sym e) (put_goes k i)

module _ {D : Type 0} (st : Staged D) where
  -- where an object was taken
  pub goes_taken : (k l : Passing D) (n : Name) (o : Object) → Gets st k l n o → GoesOn k l
  goes_taken k l n o g = subst (GoesOn k) (sym g.same) (taken_goes k (number_of st n) l.seen g.on.sees)

  -- where another actor had the object
  pub goes_missed : (k l : Passing D) (n : Name) (b : Busy) → Misses st k l n b → GoesOn k l
  goes_missed k l n b g = subst (GoesOn k) (sym g.same) (refused_goes k b.object b.by)

  -- where an entry was made
  pub goes_made : (k l : Passing D) (e : Entry) (t : ℕ) → Commits st k l e t → GoesOn k l
  goes_made k l e t c =
      let sees : IsPrefix k.seen (c.before ++ (k.actor, e) ∷ []) = subst (IsPrefix k.seen) (ap (λ (p : Passing D). p.seen) c.same) c.sees in
      subst (GoesOn k) (sym c.same) (seen_goes k (c.before ++ (k.actor, e) ∷ []) sees)

  -- a pass that goes on is of the same stage
  pub still_of : (k l : Passing D) → GoesOn k l → IsOf k st → IsOf l st
  still_of k l g h = (g.table ∙ h.0, g.scene ∙ h.1)

  -- what was seen goes on from itself
  pub sees_now : (k : Passing D) → SeesOn st k k.seen
  sees_now k = record { sees = prefix_same k.seen; mine = refl; lawful = λ h. h; kept = λ n w h. refl }

  -- one step after another, where the pass holds all that it held
  pub sees_through : (k l : Passing D) (log : Log Entry) → SeesOn st k l.seen → l.actor ≡ k.actor → ((i : ℕ) → has i k.holds ≡ true → has i l.holds ≡ true)
      → SeesOn st l log → SeesOn st k log
  sees_through k l log first same more on = record {
    sees = prefix_through k.seen l.seen log first.sees on.sees;
    mine = subst (λ a. own a log ≡ own a l.seen) same on.mine ∙ first.mine;
    lawful = λ h. on.lawful (first.lawful h);
    kept = λ n w h. on.kept n w (more (number_of st n) h) ∙ first.kept n w h;
  }

  -- what a pass holds is what it holds later too, where it still holds it and saw nothing that changes it
  pub has_later : (k l : Passing D) (n : Name) (o : Object) → Has st k n o → SeesOn st k l.seen → ((i : ℕ) → has i k.holds ≡ true → has i l.holds ≡ true)
      → Has st l n o
  has_later k l n o h on more = record {
    within = h.within;
    held = more (number_of st n) h.held;
    stands = on.kept n h.within h.held ∙ h.stands;
  }

  holds_taken : (k l : Passing D) (n : Name) (o : Object) → Gets st k l n o → (i : ℕ) → has i (number_of st n ∷ k.holds) ≡ has i l.holds
  holds_taken k l n o g i = ap (λ (p : Passing D). has i p.holds) (sym g.same)

  -- a pass that took an object holds all that it held
  pub more_held : (k l : Passing D) (n : Name) (o : Object) → Gets st k l n o → (i : ℕ) → has i k.holds ≡ true → has i l.holds ≡ true
  more_held k l n o g i h = sym (holds_taken k l n o g i) ∙ has_tail i (number_of st n) k.holds h

  -- the object that was taken
  pub has_taken : (k l : Passing D) (n : Name) (o : Object) → Gets st k l n o → Within st.scene.settings n → Has st l n o
  has_taken k l n o g within = record {
    within = within;
    held = sym (holds_taken k l n o g (number_of st n)) ∙ has_head (number_of st n) (number_of st n) k.holds refl;
    stands = g.stands;
  }

  -- an object that was held before one was taken
  pub has_beside : (k l : Passing D) (n m : Name) (o p : Object) → Gets st k l n o → Has st k m p → Has st l m p
  has_beside k l n m o p g h = has_later k l m p h g.on (more_held k l n o g)

  -- an object that was held before one was refused
  pub has_missed : (k l : Passing D) (n m : Name) (b : Busy) (p : Object) → Misses st k l n b → Has st k m p → Has st l m p
  has_missed k l n m b p g h = subst (λ (q : Passing D). Has st q m p) (sym g.same) (record { within = h.within; held = h.held; stands = h.stands })

  -- an object of another number, after one was put back
  pub has_left : (k l : Passing D) (n m : Name) (p : Object) → l ≡ having_put k (number_of st n) → (number_of st m ≡ number_of st n → ⊥) → Has st k m p
      → Has st l m p
  has_left k l n m p e apart h =
      subst (λ (q : Passing D). Has st q m p) (sym e)
      (record { within = h.within; held = without_other (number_of st m) (number_of st n) k.holds apart ∙ h.held; stands = h.stands })

  -- an object as the entry made it
  pub has_made : (k l : Passing D) (e : Entry) (t : ℕ) (n : Name) (o p : Object) → Commits st k l e t → Has st k n o → at (next (state_after st k.seen) e) n ≡ Some p
      → Has st l n p
  has_made k l e t n o p c h made = record {
    within = h.within;
    held = ap (λ (q : Passing D). has (number_of st n) q.holds) c.same ∙ h.held;
    stands = c.kept n h.within h.held ∙ made;
  }

  -- taking sees on, and so does each other step
  pub sees_taken : (k l : Passing D) (n : Name) (o : Object) → Gets st k l n o → SeesOn st k l.seen
  sees_taken k l n o g = g.on

  pub sees_same : (k l : Passing D) → l.seen ≡ k.seen → SeesOn st k l.seen
  sees_same k l e = subst (SeesOn st k) (sym e) (sees_now k)
