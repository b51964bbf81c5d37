-- The sentences on how raises and commands follow one another.
use Rattle.std.proofs.Common.{◌≡◌, inl, inr, ℕ, ◌+◌, ◌<◌, List, [], ◌∷◌, ◌++◌, Bool, true, false, Some, refl, sym, ap, ◌∙◌, arith}
use Rattle.std.specs.Prelude.{slice_get, if◌then◌else◌}
use Rattle.std.proofs.lemmas.List.{append_assoc}
use Rattle.dc_base.specs.declared.commands.Order.{Order}
use Rattle.dc_base.specs.declared.images.Image.{Image}
use Rattle.dc_base.specs.declared.commands.ScriptLine.{ScriptLine}
use Rattle.dc_base.specs.declared.commands.ScriptLine.TheVariants as line
use Rattle.dc_base.specs.declared.entries.Entry.{Entry}
use Rattle.dc_base.specs.declared.entries.What.{What}
use Rattle.dc_base.specs.declared.entries.What.TheVariants as what
use Rattle.dc_base.specs.Words.{lists}
use Rattle.dc_base.specs.Outcomes.{by_script}
use Rattle.dc_base.specs.Script.{next_command, next_raise}
use Rattle.dc_base.specs.StrikeOut.{clock_told}
use Rattle.dc_base.specs.Boot.{Registry}
use Rattle.dc_base.specs.Answers.{Answered, first_unanswered}
use Rattle.dc_base.specs.Runs.{Seen, run_of}
use Rattle.dc_journal_laws.specs.Entries.{raise_in, raised, is_begun}
use Rattle.dc_journal_laws.specs.Raising.{RaisedAsSaid, RaisedByLine, NoRaiseLeftOut, RaisedAfterCommands, AnsweredAfterRaises}
use Rattle.dc_journal_laws.proofs.Prefixes.{around}
use Rattle.dc_journal_laws.proofs.Cases.{Case, works, carries, begins, posts, does, answers_once, raises, case_of}
use Rattle.dc_journal_laws.proofs.Lists.{each_of-at, finished-begun}
use Rattle.dc_journal_laws.proofs.Places.{next_first, next_raise-order, raise_counted, raise_below, Order3, is_less, is_equal, is_more, order3}
use Rattle.dc_journal_laws.proofs.Progress.{Progress, progress}
use Rattle.dc_journal_laws.proofs.Raises.{IsMade, Raises, raises_are}
use Rattle.dc_journal_laws.proofs.Answering.{answering_case}

module _ (lines : List ScriptLine) (r : Registry) where
  -- what a raise entry finds
  abbrev Raising : Answered → What → Type 0
  Raising a (what.Raise q l x) = (next_raise lines a.raises ≡ Some q) × (q < first_unanswered lines a) × (slice_get lines q ≡ Some (line.Raise l))
  Raising a w = Unit {0}

  none_raised : (a : Answered) (w : What) → raise_in w ≡ [] → Raising a w
  none_raised a (what.Raise q l x) h = absurd cc
  none_raised a w h = tt

  raising_case : (a n : Answered) (e : Entry) → Case lines r a e n → Raising a e.what
  raising_case a n e (works c u plain none) = none_raised a u plain.no_raise
  raising_case a n e (carries c u o plain some at) = none_raised a u plain.no_raise
  raising_case a n e (begins q c o more answer begin first) = tt
  raising_case a n e (posts q c o more begun at none left) = tt
  raising_case a n e (does q at begun left none) = tt
  raising_case a n e (answers_once q u single begin) = none_raised a u single.no_raise
  raising_case a n e (raises q l x at below there) = (at, below, there)

module _ (image : Image) (lines : List ScriptLine) (journal : List Entry) (h : run_of image lines journal ≡ true) where
  -- what an entry finds
  record Found (before : List Entry) (e : Entry) : Type 0 where
    seen : Seen
    progress : Progress image lines before seen.answered.place seen.answered.begun seen.answered.left
    made : Raises lines before seen.answered.place seen.answered.begun seen.answered.raises
    raising : Raising lines seen.boot seen.answered e.what
    next : Answered
    case : Case lines seen.boot seen.answered e next

  found : (before after : List Entry) (e : Entry) → journal ≡ before ++ e ∷ after → Found before e
  found before after e same =
      let a = around image lines journal before after e h same in
      let s = a.seen in
      let case = case_of lines s.boot (clock_told s.told) s.answered e a.next.answered a.comes.answered in
      record {
        seen = s;
        progress = progress image lines before s a.run_to;
        made = raises_are lines image before s a.run_to;
        raising = raising_case lines s.boot s.answered a.next.answered e case;
        next = a.next.answered;
        case = case;
      }

  pub raised_as_said : RaisedAsSaid image lines journal
  raised_as_said before after q l x same = (found before after (by_script (what.Raise q l x)) same).raising.2

  pub raised_by_line : RaisedByLine image lines journal
  raised_by_line before between after p q l m x t same =
      let d = by_script (what.Raise p l x) in
      let e = by_script (what.Raise q m t) in
      let f = found (before ++ d ∷ between) after e (same ∙ sym (append_assoc before (d ∷ between) (e ∷ after))) in
      let was = each_of-at (IsMade lines f.seen.answered.raises) before d between f.made.places p refl in
      next_raise-order lines was.0 f.seen.answered.raises p q was.1 was.2 f.raising.0

  pub no_raise_left_out : NoRaiseLeftOut image lines journal
  no_raise_left_out before after p q l m x same there above =
      let f = found before after (by_script (what.Raise q l x)) same in
      let k = raise_counted lines p m there in
      by f k.0 k.1 (order3 k.0 f.seen.answered.raises)
    where
      by : (f : Found before (by_script (what.Raise q l x))) (k : ℕ) → next_raise lines k ≡ Some p → Order3 k f.seen.answered.raises → lists (raised before) p ≡ true
      by f k at (is_less a) = f.made.made k p a at
      by f k at (is_equal a) =
          let next : next_raise lines k ≡ Some q = ap (λ i. next_raise lines i) a ∙ f.raising.0 in
          let same : p ≡ q = cc in
          absurd (omega (arith, same, above))
      by f k at (is_more a) = let low = next_raise-order lines f.seen.answered.raises k q p a f.raising.0 at in absurd (omega (arith, low, above))

  pub raised_after_commands : RaisedAfterCommands image lines journal
  raised_after_commands before after p q l m x same there is_one above =
      let f = found before after (by_script (what.Raise q l x)) same in
      by f.seen.answered.place f.seen.answered.begun f.seen.answered.left f.progress f.raising.1
    where
      at_place : (place : ℕ) (left : List (ℕ × Order)) → Progress image lines before place true left → q < next_command lines (place + 1) → Order3 p place → is_begun p before ≡ true
      at_place place left pr low (is_less a) = finished-begun p before (pr.above p m there is_one a)
      at_place place left pr low (is_equal a) = ap (λ i. is_begun i before) a ∙ (pr.going refl).there
      at_place place left pr low (is_more a) = let b = next_first lines (place + 1) p m there is_one (omega (arith, a)) in absurd (omega (arith, b, low, above))

      by : (place : ℕ) (begun : Bool) (left : List (ℕ × Order)) → Progress image lines before place begun left → q < (if begun then next_command lines (place + 1) else place) → is_begun p before ≡ true
      by place false left pr low = finished-begun p before (pr.above p m there is_one (omega (arith, above, low)))
      by place true left pr low = at_place place left pr low (order3 p place)

  pub answered_after_raises : AnsweredAfterRaises image lines journal
  answered_after_raises before after e p q l same of_e there above =
      let f = found before after e same in
      let k = raise_counted lines p l there in
      let line = answering_case lines f.seen.boot f.seen.answered f.next e f.case q of_e in
      let here = line.place in
      elim line.either [
        | inl t ↦ f.made.above t.0 p l there (omega (arith, here, above))
        | inr begin ↦ f.made.made k.0 p (raise_below lines f.seen.answered.raises k.0 q p begin.above k.1 above) k.1
      ]
