-- A journal of which the sentences hold goes on: a command's entry is of the command at the script's place.
use Rattle.std.proofs.Common.{◌≡◌, inl, inr, ℕ, ◌+◌, ◌<◌, List, [], ◌∷◌, ◌++◌, Bool, true, false, Option, Some, None, refl, sym, ap, ◌∙◌, subst, arith}
use Rattle.std.specs.Prelude.{◌==◌, ◌&&◌, not, nat_lt, slice_get}
use Rattle.std.proofs.lemmas.Bool.Decides.{nat_tests}
use Rattle.std.proofs.lemmas.List.{append_assoc, append_cancel_left}
use Rattle.dc_base.specs.declared.images.Image.{Image}
use Rattle.dc_base.specs.declared.numbers.LineNo.{LineNo}
use Rattle.dc_base.specs.declared.commands.Order.{Order}
use Rattle.dc_base.specs.declared.commands.ScriptLine.{ScriptLine}
use Rattle.dc_base.specs.declared.commands.ScriptLine.TheVariants as line
use Rattle.dc_base.specs.declared.entries.Entry.{Entry}
use Rattle.dc_base.specs.StrikeOut.{clock_told}
use Rattle.dc_base.specs.Script.{is_command, next_command, next_raise}
use Rattle.dc_base.specs.Boot.{Registry}
use Rattle.dc_base.specs.Answers.{Answered, answered_start, is_above, may_begin}
use Rattle.dc_base.specs.Runs.{Seen, seen_start, run}
use Rattle.dc_journal_laws.specs.Entries.{command_line, answers, is_post, finishes, is_finished, is_begun, posted, carried_out}
use Rattle.dc_journal_laws.specs.Answering.{goes_on}
use Rattle.dc_journal_laws.specs.Whole.{SentencesHold}
use Rattle.dc_journal_laws.proofs.Prefixes.{holds_after}
use Rattle.dc_journal_laws.proofs.Cases.{Case, works, carries, begins, posts, does, answers_once, raises, case_of}
use Rattle.dc_journal_laws.proofs.Lists.{each_of-at}
use Rattle.dc_journal_laws.proofs.Places.{next_raise-order, Order3, is_less, is_equal, is_more, order3}
use Rattle.dc_journal_laws.proofs.Waits.{Waits, waits}
use Rattle.dc_journal_laws.proofs.Progress.{IsBelow, Progress, progress}
use Rattle.dc_journal_laws.proofs.Raises.{Raises, raises_are}
use Rattle.dc_journal_laws.proofs.Answering.{finishes-post}
use Rattle.dc_journal_laws.proofs.Standing.{stands, line_of, line_of_last, next_is, there_above, raise_line, only_made}
use Rattle.dc_journal_laws.proofs.Tests.{same_number, and_true}

-- the place is that of a next command
place_case : (lines : List ScriptLine) (r : Registry) (a n : Answered) (e : Entry) → Case lines r a e n → (k : ℕ) × (a.place ≡ next_command lines k) → (k : ℕ) × (n.place ≡ next_command lines k)
place_case lines r a n e (works c u plain none) at = at
place_case lines r a n e (carries c u o plain some there) at = at
place_case lines r a n e (begins q c o more answer begin first) at = at
place_case lines r a n e (posts q c o more begun there none left) at = at
place_case lines r a n e (does q there begun left none) at = (a.place + 1, refl)
place_case lines r a n e (answers_once q u single begin) at = (a.place + 1, refl)
place_case lines r a n e (raises q l x there below line) at = at

pub place_is : (image : Image) (lines : List ScriptLine) (before : List Entry) (s : Seen) → run image lines before ≡ Some s → (k : ℕ) × (s.answered.place ≡ next_command lines k)
unfolding seen_start answered_start
place_is image lines = holds_after image lines (λ before s. (k : ℕ) × (s.answered.place ≡ next_command lines k)) (0, refl)
    (λ before s e n r comes at. place_case lines s.boot s.answered n.answered e (case_of lines s.boot (clock_told s.told) s.answered e n.answered comes.answered) at)

no_last : (os : List (ℕ × Order)) (o : ℕ × Order) → os ≡ os ++ o ∷ [] → ⊥
no_last [] o h = absurd cc
no_last (p ∷ os) o h = let same : os ≡ os ++ o ∷ [] = cc in no_last os o same

last_is : (os : List (ℕ × Order)) (o p : ℕ × Order) → os ++ o ∷ [] ≡ os ++ p ∷ [] → o ≡ p
last_is os o p h = let same = append_cancel_left os (o ∷ []) (p ∷ []) h in cc

not_true : (p : Bool) → (p ≡ true → ⊥) → p ≡ false
not_true true h = absurd (h refl)
not_true false h = refl

module _ (image : Image) (lines : List ScriptLine) (journal : List Entry) (said : SentencesHold image lines journal) (before after : List Entry) (s : Seen) (r : run image lines before ≡ Some s) where
  pub so_far : Progress image lines before s.answered.place s.answered.begun s.answered.left
  so_far = progress image lines before s r

  waiting : Waits before s.answered.begun s.answered.posted
  waiting = waits image lines before s r

  pub made_so_far : Raises lines before s.answered.place s.answered.begun s.answered.raises
  made_so_far = raises_are lines image before s r

  -- nothing waits where all is carried out
  none_by : (o : Option (ℕ × Order)) → Waits before s.answered.begun o → posted before ≡ carried_out before → o ≡ None
  none_by None w h = refl
  none_by (Some o) w h = absurd (no_last (carried_out before) o (sym h ∙ w.some o refl))

  pub none_waits : (e : Entry) (q : ℕ) → journal ≡ before ++ e ∷ after → command_line e.what ≡ Some q → s.answered.posted ≡ None
  none_waits e q same at = none_by s.answered.posted waiting (said.carried_before before after e q same at)

  -- the order that waits is the last posted
  some_by : (o : Option (ℕ × Order)) (p : ℕ × Order) → Waits before s.answered.begun o → posted before ≡ carried_out before ++ p ∷ [] → o ≡ Some p
  some_by None p w h = absurd (no_last (carried_out before) p (sym (w.none refl) ∙ h))
  some_by (Some o) p w h = ap Some (last_is (carried_out before) o p (sym (w.some o refl) ∙ h))

  pub some_waits : (c : ℕ) (o : Order) → posted before ≡ carried_out before ++ (c, o) ∷ [] → s.answered.posted ≡ Some (c, o)
  some_waits c o h = some_by s.answered.posted (c, o) waiting h

  -- two entries of the journal, the first of them before this one
  pub apart : (d e : Entry) (xs ys : List Entry) → before ≡ xs ++ d ∷ ys → journal ≡ before ++ e ∷ after → journal ≡ xs ++ d ∷ (ys ++ e ∷ after)
  apart d e xs ys there same = same ∙ ap (λ zs. zs ++ e ∷ after) there ∙ append_assoc xs (d ∷ ys) (e ∷ after)

  -- the command at the place is not finished
  not_finished : is_finished s.answered.place before ≡ true → ⊥
  not_finished h =
      let place = s.answered.place in
      let d = stands (finishes place) before h in
      let was = each_of-at (IsBelow place s.answered.begun) d.before d.entry d.after (subst (λ es. Progress image lines es place s.answered.begun s.answered.left) d.place so_far).below place (line_of_last place d.entry d.passes) in
      elim was [ inl low ↦ omega (arith, low) | inr at ↦ finishes-post (answers place d.entry) (is_post d.entry.what) at.post d.passes ]

  -- an entry of a command is of the one at the place
  pub at_place : (e : Entry) (q : ℕ) (l : ScriptLine) → journal ≡ before ++ e ∷ after → command_line e.what ≡ Some q → slice_get lines q ≡ Some l → is_command l ≡ true → q ≡ s.answered.place
  at_place e q l same at there is_one = by (order3 q s.answered.place)
    where
      finished_twice : is_finished q before ≡ true → ⊥
      finished_twice h =
          let d = stands (finishes q) before h in
          let low = (said.answered d.before d.after after d.entry e q q (apart d.entry e d.before d.after d.place same) (line_of_last q d.entry d.passes) at).1 d.passes in
          omega (arith, low)

      unfinished : (m : ScriptLine) → slice_get lines s.answered.place ≡ Some m → s.answered.place < q → ⊥
      unfinished m here low =
          let k = place_is image lines before s r in
          not_finished (said.none_left_out before after e s.answered.place q m same at here (next_is lines k.0 m (ap (λ i. slice_get lines i) (sym k.1) ∙ here)) low)

      by : Order3 q s.answered.place → q ≡ s.answered.place
      by (is_less low) = absurd (finished_twice (so_far.above q l there is_one low))
      by (is_equal e) = e
      by (is_more low) = let m = there_above lines s.answered.place q l there low in absurd (unfinished m.0 m.1 low)

  -- an entry that does not go on with a command is its first
  pub is_fresh : (e : Entry) (q : ℕ) → journal ≡ before ++ e ∷ after → command_line e.what ≡ Some q → q ≡ s.answered.place → goes_on e.what ≡ false → s.answered.begun ≡ false
  is_fresh e q same at here alone = not_true s.answered.begun begun_not
    where
      begun_not : s.answered.begun ≡ true → ⊥
      begun_not begun =
          let d = stands (answers q) before (ap (λ i. is_begun i before) here ∙ (so_far.going begun).there) in
          let on = said.once d.before d.after after d.entry e q (apart d.entry e d.before d.after d.place same) (line_of q d.entry d.passes) at in
          let bad : false ≡ true = sym alone ∙ on in
          cc

  -- every raise above a command's entry was made
  above_by : (e : Entry) (q : ℕ) (l : ScriptLine) → journal ≡ before ++ e ∷ after → command_line e.what ≡ Some q → slice_get lines q ≡ Some l → is_command l ≡ true → (o : Option ℕ) → next_raise lines s.answered.raises ≡ o → is_above q o ≡ true
  above_by e q l same at there is_one None next = refl
  above_by e q l same at there is_one (Some t) next = by (order3 q t)
    where
      not_command : (m : LineNo) → slice_get lines q ≡ Some (line.Raise m) → ⊥
      not_command m here = let same_line : l ≡ line.Raise m = cc in let bad : false ≡ true = ap is_command (sym same_line) ∙ is_one in cc

      not_yet : (m : LineNo) → slice_get lines t ≡ Some (line.Raise m) → t < q → ⊥
      not_yet m here low =
          let k = only_made lines s.answered.raises before t made_so_far.places (said.answered_after before after e t q m same at here low) in
          let less = next_raise-order lines k.0 s.answered.raises t t k.1 k.2 next in
          omega (arith, less)

      by : Order3 q t → nat_lt q t ≡ true
      by (is_less low) = grind (arith, nat_tests)
      by (is_equal i) = let m = raise_line lines s.answered.raises t next in absurd (not_command m.0 (ap (λ k. slice_get lines k) i ∙ m.1))
      by (is_more low) = let m = raise_line lines s.answered.raises t next in absurd (not_yet m.0 m.1 low)

  pub may : (e : Entry) (q : ℕ) (l : ScriptLine) → journal ≡ before ++ e ∷ after → command_line e.what ≡ Some q → slice_get lines q ≡ Some l → is_command l ≡ true → s.answered.begun ≡ false → may_begin lines s.answered q ≡ true
  may e q l same at there is_one fresh =
      and_true (q == s.answered.place) (not s.answered.begun && is_above q (next_raise lines s.answered.raises)) (same_number q s.answered.place (at_place e q l same at there is_one))
      (and_true (not s.answered.begun) (is_above q (next_raise lines s.answered.raises)) (ap not fresh) (above_by e q l same at there is_one (next_raise lines s.answered.raises) refl))
