-- A journal of which the sentences hold goes on: its raises are in order with the script, and so is each entry.
use Rattle.std.proofs.Common.{◌≡◌, ℕ, ◌+◌, ◌<◌, List, ◌∷◌, ◌++◌, Bool, true, false, Option, Some, None, refl, sym, ap, ◌∙◌, subst, arith, inl, inr}
use Rattle.std.specs.Prelude.{◌&&◌, nat_lt, if◌then◌else◌, is_some, slice_get}
use Rattle.std.proofs.lemmas.Bool.Decides.{nat_tests}
use Rattle.dc_base.specs.declared.images.Image.{Image}
use Rattle.dc_base.specs.declared.actions.Actor.{Actor}
use Rattle.dc_base.specs.declared.actions.Actor.TheVariants as actor
use Rattle.dc_base.specs.declared.numbers.LineNo.{LineNo}
use Rattle.dc_base.specs.declared.interrupts.Raised.{Raised}
use Rattle.dc_base.specs.declared.commands.ScriptLine.{ScriptLine}
use Rattle.dc_base.specs.declared.commands.ScriptLine.TheVariants as line
use Rattle.dc_base.specs.declared.entries.Entry.{Entry}
use Rattle.dc_base.specs.declared.entries.What.{What}
use Rattle.dc_base.specs.declared.entries.What.TheVariants as what
use Rattle.dc_base.specs.Words.{is_number}
use Rattle.dc_base.specs.Outcomes.{by_script}
use Rattle.dc_base.specs.StrikeOut.{clock_told}
use Rattle.dc_base.specs.Script.{next_command, next_raise}
use Rattle.dc_base.specs.Answers.{is_made_by_core, first_unanswered, is_raise_of, raise_answer, script_answer, answered_by, answered_after}
use Rattle.dc_base.specs.Runs.{Seen, run}
use Rattle.dc_journal_laws.specs.Entries.{answers, is_begun}
use Rattle.dc_journal_laws.specs.Answering.{may_make}
use Rattle.dc_journal_laws.specs.Whole.{SentencesHold}
use Rattle.dc_journal_laws.proofs.Lists.{EachOf, each_of-at, NoneOf}
use Rattle.dc_journal_laws.proofs.Places.{next_later, next_none, next_raise-order, raise_counted, Order3, is_less, is_equal, is_more, order3}
use Rattle.dc_journal_laws.proofs.Progress.{IsBelow, none_of}
use Rattle.dc_journal_laws.proofs.Standing.{stands, line_of, next_is, there_above, raise_line, only_made, raise_stands}
use Rattle.dc_journal_laws.proofs.Tests.{same_number, and_true}
use Rattle.dc_journal_laws.proofs.ExactPlaces.{place_is, so_far, made_so_far, apart}
use Rattle.dc_journal_laws.proofs.ExactAnswers.{some_if, core_some, post_some, done_some, refused_some, route_some, met_some, unmet_some}

abbrev made_of : Actor → What → Entry
made_of who w = record { actor = who; what = w }

-- a raise is the script's
raised_by : (who : Actor) (w : What) (q : ℕ) (l : LineNo) (x : Raised) → w ≡ what.Raise q l x → may_make who w ≡ true → who ≡ actor.Script
raised_by (actor.Core c) w q l x same h = absurd (let bad : false ≡ true = ap is_made_by_core (sym same) ∙ h in cc)
raised_by actor.Script w q l x same h = refl

raise_entry : (e : Entry) (q : ℕ) (l : LineNo) (x : Raised) → e.what ≡ what.Raise q l x → may_make e.actor e.what ≡ true → e ≡ by_script (what.Raise q l x)
raise_entry e q l x same h = ap (λ who. made_of who e.what) (raised_by e.actor e.what q l x same h) ∙ ap (λ w. made_of actor.Script w) same

module _ (image : Image) (lines : List ScriptLine) (journal : List Entry) (said : SentencesHold image lines journal) (before after : List Entry) (s : Seen) (r : run image lines before ≡ Some s) where
  module _ (q : ℕ) (l : LineNo) (x : Raised) (same : journal ≡ before ++ by_script (what.Raise q l x) ∷ after) where
    abbrev now : Entry
    now = by_script (what.Raise q l x)

    -- it was not made before
    earlier : (k : ℕ) → k < s.answered.raises → next_raise lines k ≡ Some q → ⊥
    earlier k low at =
        let made = made_so_far image lines journal said before after s r in
        let d = raise_stands q before (made.made k q low at) in
        let two = apart image lines journal said before after s r d.entry now d.before d.after d.place same in
        let is = raise_entry d.entry q d.l d.x d.is (said.makers d.before (d.after ++ now ∷ after) d.entry two) in
        let bad = said.raised_by_line d.before d.after after q q d.l l d.x x (two ∙ ap (λ e. d.before ++ e ∷ (d.after ++ now ∷ after)) is) in
        omega (arith, bad)

    later_by : (k : ℕ) (o : Option ℕ) → next_raise lines s.answered.raises ≡ o → s.answered.raises < k → next_raise lines k ≡ Some q → ⊥
    later_by k None next low at = let none = next_none lines s.answered.raises k (omega (arith, low)) next in let bad : None ≡ Some q = sym none ∙ at in cc
    later_by k (Some t) next low at =
        let above = next_raise-order lines s.answered.raises k t q low next at in
        let m = raise_line lines s.answered.raises t next in
        let made = only_made lines s.answered.raises before t (made_so_far image lines journal said before after s r).places (said.no_raise_left_out before after t q l m.0 x same m.1 above) in
        let bad = next_raise-order lines made.0 s.answered.raises t t made.1 made.2 next in
        omega (arith, bad)

    next_by : (k : ℕ) → next_raise lines k ≡ Some q → Order3 k s.answered.raises → next_raise lines s.answered.raises ≡ Some q
    next_by k at (is_less low) = absurd (earlier k low at)
    next_by k at (is_equal i) = ap (λ n. next_raise lines n) (sym i) ∙ at
    next_by k at (is_more low) = absurd (later_by k (next_raise lines s.answered.raises) refl low at)

    -- it is the next raise
    next_is_this : next_raise lines s.answered.raises ≡ Some q
    next_is_this = let k = raise_counted lines q l (said.raised before after q l x same) in next_by k.0 k.1 (order3 k.0 s.answered.raises)

    -- a command's place without an entry is below it
    free : (place k : ℕ) → place ≡ next_command lines k → (is_begun place before ≡ true → ⊥) → Order3 q place → q < place
    free place k at none (is_less low) = low
    free place k at none (is_equal i) =
        let is_one = next_is lines k (line.Raise l) (ap (λ n. slice_get lines n) (sym at ∙ sym i) ∙ said.raised before after q l x same) in
        let bad : false ≡ true = is_one in
        absurd cc
    free place k at none (is_more low) =
        let m = there_above lines place q (line.Raise l) (said.raised before after q l x same) low in
        let is_one = next_is lines k m.0 (ap (λ n. slice_get lines n) (sym at) ∙ m.1) in
        absurd (none (said.raised_after before after place q l m.0 x same m.1 is_one low))

  -- no entry of the command at the place was made, where it has not begun
  none_there : s.answered.begun ≡ false → is_begun s.answered.place before ≡ true → ⊥
  none_there fresh h =
      let place = s.answered.place in
      let below = subst (λ b. EachOf (IsBelow place b) before) fresh (so_far image lines journal said before after s r).below in
      let d = stands (answers place) before h in
      let none = each_of-at (λ e. answers place e ≡ false) d.before d.entry d.after (subst (NoneOf place) d.place (none_of image lines before place s.answered.left below)) in
      let bad : false ≡ true = sym none ∙ d.passes in
      cc

  -- nor one of the command after it, where it has
  none_behind : s.answered.begun ≡ true → is_begun (next_command lines (s.answered.place + 1)) before ≡ true → ⊥
  none_behind begun h =
      let place = s.answered.place in
      let next = next_command lines (place + 1) in
      let progress = so_far image lines journal said before after s r in
      let d = stands (answers next) before h in
      let was = each_of-at (IsBelow place s.answered.begun) d.before d.entry d.after (subst (EachOf (IsBelow place s.answered.begun)) d.place progress.below) next (line_of next d.entry d.passes) in
      let answer = (progress.going begun).orders.answer in
      let low = next_later lines place (line.Boot answer.command) answer.in_script in
      elim was [ inl a ↦ omega (arith, a, low) | inr a ↦ (let at = a.at in omega (arith, at, low)) ]

  unanswered_by : (q : ℕ) (l : LineNo) (x : Raised) → journal ≡ before ++ by_script (what.Raise q l x) ∷ after → (b : Bool) → s.answered.begun ≡ b →
      q < (if b then next_command lines (s.answered.place + 1) else s.answered.place)
  unanswered_by q l x same true begun = let next = next_command lines (s.answered.place + 1) in free q l x same next (s.answered.place + 1) refl (none_behind begun) (order3 q next)
  unanswered_by q l x same false fresh = let k = place_is image lines before s r in free q l x same s.answered.place k.0 k.1 (none_there fresh) (order3 q s.answered.place)

  raise_some : (q : ℕ) (l : LineNo) (x : Raised) → journal ≡ before ++ by_script (what.Raise q l x) ∷ after → is_some (raise_answer lines s.answered q l.0) ≡ true
  raise_some q l x same =
      let number = is_number q (next_raise lines s.answered.raises) in
      let low = nat_lt q (first_unanswered lines s.answered) in
      let of_line = is_raise_of l.0 (slice_get lines q) in
      some_if (number && (low && of_line)) (record s.answered { raises = s.answered.raises + 1 })
      (and_true number (low && of_line) (ap (is_number q) (next_is_this q l x same) ∙ same_number q q refl)
      (and_true low of_line (less (first_unanswered lines s.answered) (unanswered_by q l x same s.answered.begun refl)) (ap (is_raise_of l.0) (said.raised before after q l x same) ∙ same_number l.0 l.0 refl)))
    where
      less : (n : ℕ) → q < n → nat_lt q n ≡ true
      less n h = grind (arith, nat_tests)

  script_some : (w : What) → journal ≡ before ++ by_script w ∷ after → is_some (script_answer lines s.boot s.answered w) ≡ true
  unfolding script_answer
  script_some (what.Post q c o) same = post_some image lines journal said before after s r q c o same
  script_some (what.Done q) same = done_some image lines journal said before after s r q same
  script_some (what.Refused q x) same = refused_some image lines journal said before after s r q x same
  script_some (what.Raise q l x) same = raise_some q l x same
  script_some (what.Route q l c) same = route_some image lines journal said before after s r q l c same
  script_some (what.Met q b n) same = met_some image lines journal said before after s r q b n same
  script_some (what.Unmet q b n) same = unmet_some image lines journal said before after s r q b n same
  script_some w same = absurd (let bad : false ≡ true = said.makers before after (by_script w) same in cc)

  by_some : (who : Actor) (w : What) → journal ≡ before ++ made_of who w ∷ after → is_some (answered_by lines s.boot (clock_told s.told) s.answered who w) ≡ true
  by_some (actor.Core c) w same = core_some image lines journal said before after s r c.0 w same
  by_some actor.Script w same = script_some w same

  -- the entry is in order with the script
  pub answered_some : (e : Entry) → journal ≡ before ++ e ∷ after → is_some (answered_after lines s.boot (clock_told s.told) s.answered e) ≡ true
  unfolding answered_after
  answered_some e same = by_some e.actor e.what same
