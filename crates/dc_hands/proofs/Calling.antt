-- The calls of the stage, in the machine's words.
use Rattle.std.proofs.Common.{◌≡◌, ℕ, true, true≢false, List, [], ◌∷◌, ◌++◌, Option, Some, None, refl, sym, ap, ◌∙◌, subst, inl, inr, map, ⊎_elim}
use Rattle.std.specs.Option.{option_map}
use Rattle.dc_base.specs.declared.entries.Entry.{Entry}
use Rattle.dc_base.specs.Words.{bind}
use Rattle.dc_base.specs.Changes.{Name, Object, at}
use Rattle.dc_base.specs.Histories.{touched, Listed, next}
use Rattle.dc_base.specs.Objects.{at_number, touched_numbers}
use Rattle.dc_base.specs.States.{State}
use Rattle.dc_touch.specs.Within.{Within}
use Rattle.dc_touch.proofs.Numbers.{name_at-number}
use Rattle.dc_touch.proofs.SizeLaws.{sizes_stay}
use Rattle.dc_stage.specs.Numbers.{has}
use Rattle.dc_stage.specs.History.{Meaning, Log, whole_after, after}
use Rattle.dc_stage.specs.Passes.{having_taken}
use Rattle.dc_stage.specs.Calls.{SeesMore}
use Rattle.dc_stage.specs.Calls.{Gets as StageGets}
use Rattle.dc_stage.specs.Calls.{Commits as StageCommits}
use Rattle.dc_stage.proofs.Numbers.{has_cons}
use Rattle.dc_scene.specs.declared.objects.Object.{Object as Held}
use Rattle.dc_scene.specs.Objects.{object_seen}
use Rattle.dc_scene.specs.Machines.{machine, at_sized}
use Rattle.dc_scene.specs.Sizes.{at_sizes}
use Rattle.dc_scene.proofs.Runs.{to_machine, run_same, object_after, sizes_after}
use Rattle.dc_runs.proofs.Beginnings.{rest_lawful}
use Rattle.dc_hands.specs.Machines.{Staged, Passing, IsOpened, IsLawfulHere, state_after, number_of}
use Rattle.dc_hands.specs.Holding.{Has, Gets, SeesOn, Commits}

module _ {D : Type 0} (st : Staged D) where
  abbrev pub meaning_of : Meaning State (Option Object) Entry
  meaning_of = machine st.scene.settings st.scene.start

  at_its_number : (s : State) (n : Name) → Within st.scene.settings n → at_number st.scene.settings s (number_of st n) ≡ at s n
  unfolding at_number
  at_its_number s n w = ap (λ (o : Option Name). bind o (at s)) (name_at-number st.scene.settings n w)

  module _ (opened : IsOpened st) where
    -- the state of an object of the stage is that of the machine
    stands_so : (log : Log Entry) (n : Name) → Within st.scene.settings n → after meaning_of log (number_of st n) ≡ at (state_after st log) n
    stands_so log n w =
        object_after st.scene.settings st.scene.start opened.sizes log (number_of st n) ∙ at_its_number (state_after st log) n w

    -- a history of the stage that goes on is one of the machine
    sees_on : (k : Passing D) (log : Log Entry) → SeesMore meaning_of k log → SeesOn st k log
    sees_on k log m = record {
      sees = m.sees;
      mine = m.mine;
      lawful = λ h. to_machine st.scene.settings st.scene.start st.scene.start log m.lawful;
      kept = λ n w h. sym (stands_so log n w) ∙ (m.kept (number_of st n) h ∙ stands_so k.seen n w);
    }

    -- what was taken
    pub gets_object : (k l : Passing D) (n : Name) (i : ℕ) (x : Held D) (o : Object) → i ≡ number_of st n → Within st.scene.settings n → object_seen x ≡ o
        → StageGets meaning_of (λ (y : Held D). Some (object_seen y)) k l i x → Gets st k l n o
    gets_object k l n i x o number within is g = record {
      same = g.same ∙ ap (λ j. having_taken k j l.seen) number;
      on = sees_on k l.seen g.more;
      lawful = to_machine st.scene.settings st.scene.start st.scene.start l.seen g.more.lawful;
      stands = sym (stands_so l.seen n within) ∙ (ap (after meaning_of l.seen) (sym number) ∙ (sym g.state_is ∙ ap Some is));
    }

    -- what was taken is of its kind
    pub got_there : (k l : Passing D) (n : Name) (i : ℕ) (x : Held D) → i ≡ number_of st n → Within st.scene.settings n
        → StageGets meaning_of (λ (y : Held D). Some (object_seen y)) k l i x → at (state_after st l.seen) n ≡ Some (object_seen x)
    got_there k l n i x number within g = (gets_object k l n i x (object_seen x) number within refl g).stands

    -- what is held may be put back
    pub puts_object : (k : Passing D) (n : Name) (o : Object) (i : ℕ) → Has st k n o → i ≡ number_of st n → Some o ≡ after meaning_of k.seen i
    puts_object k n o i h number = sym (ap (after meaning_of k.seen) number ∙ (stands_so k.seen n h.within ∙ h.stands))

    next_stands : (log : Log Entry) (e : Entry) (n : Name) → Within st.scene.settings n
        → at_sized st.scene.settings (next (whole_after meaning_of log) e) (number_of st n) ≡ at (next (state_after st log) e) n
    next_stands log e n w =
        let s : State = state_after st log in
        ap (λ (v : State). at_sized st.scene.settings (next v e) (number_of st n)) (run_same st.scene.settings st.scene.start st.scene.start log)
        ∙ (at_sizes st.scene.settings (next s e) (sizes_stay st.scene.settings s e (sizes_after st.scene.settings st.scene.start opened.sizes log)) (number_of st n)
        ∙ at_its_number (next s e) n w)

    -- an entry that was made
    pub commits_entry : (k l : Passing D) (e : Entry) (ticket : ℕ) → StageCommits meaning_of k l e ticket → Commits st k l e ticket
    commits_entry k l e ticket m =
        let lawful : IsLawfulHere st l.seen = to_machine st.scene.settings st.scene.start st.scene.start l.seen m.lawful in
        let whole : IsLawfulHere st (m.before ++ (k.actor, e) ∷ []) = subst (IsLawfulHere st) (ap (λ (p : Passing D). p.seen) m.same) lawful in
        record {
          before = m.before;
          on = sees_on k m.before m.more;
          same = m.same;
          place = m.place;
          sees = m.sees;
          before_lawful = to_machine st.scene.settings st.scene.start st.scene.start m.before m.more.lawful;
          entry_lawful = (rest_lawful st.scene.settings st.scene.start m.before ((k.actor, e) ∷ []) whole).0.1;
          lawful = lawful;
          mine = m.mine;
          kept = λ n w h. sym (stands_so l.seen n w) ∙ (m.kept (number_of st n) h ∙ next_stands k.seen e n w);
        }

  held_by : (k : Passing D) (ns : List Name) → ((n : Name) → Listed n ns → has (number_of st n) k.holds ≡ true) → (i : ℕ) → has i (map (number_of st) ns) ≡ true
      → has i k.holds ≡ true
  held_by k [] all i h = absurd (true≢false (sym h))
  held_by k (n ∷ ns) all i h = ⊎_elim
      (λ e. ap (λ j. has j k.holds) e ∙ all n (inl refl))
      (λ t. held_by k ns (λ m l. all m (inr l)) i t)
      (has_cons i (number_of st n) (map (number_of st) ns) h)

  -- all that an entry touches is held
  pub touched_held : (k : Passing D) (e : Entry) → ((n : Name) → Listed n (touched (state_after st k.seen) e) → has (number_of st n) k.holds ≡ true)
      → (i : ℕ) → has i (touched_numbers st.scene.settings (whole_after meaning_of k.seen) e) ≡ true → has i k.holds ≡ true
  unfolding touched_numbers
  touched_held k e all i h = held_by k (touched (state_after st k.seen) e) all i
      (sym (ap (λ (s : State). has i (map (number_of st) (touched s e))) (run_same st.scene.settings st.scene.start st.scene.start k.seen)) ∙ h)

-- an object that stands at a name is there
pub kind_there : {A : Type 0} (f : A → Object) (o : Option A) (x : Object) → option_map f o ≡ Some x → (y : A) × (x ≡ f y)
kind_there f None x e = absurd cc
kind_there f (Some y) x e = let same : f y ≡ x = cc in (y, sym same)
