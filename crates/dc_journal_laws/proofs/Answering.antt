-- The sentences on how the entries of commands answer the script.
use Rattle.std.proofs.Common.{◌≡◌, ◌⊎◌, inl, inr, ℕ, ◌<◌, ◌≤◌, List, ◌∷◌, ◌++◌, Bool, true, false, Some, None, refl, sym, ap, ◌∙◌, subst, arith}
use Rattle.std.specs.Prelude.{◌==◌, ◌&&◌, not, nat_le, nat_lt, slice_get}
use Rattle.std.proofs.lemmas.Bool.Decides.{nat_tests}
use Rattle.std.proofs.lemmas.List.{append_assoc}
use Rattle.dc_base.specs.declared.images.Image.{Image}
use Rattle.dc_base.specs.declared.commands.ScriptLine.{ScriptLine}
use Rattle.dc_base.specs.declared.entries.Entry.{Entry}
use Rattle.dc_base.specs.declared.entries.What.{What}
use Rattle.dc_base.specs.declared.entries.What.TheVariants as what
use Rattle.dc_base.specs.Outcomes.{by_core, by_script}
use Rattle.dc_base.specs.StrikeOut.{clock_told}
use Rattle.dc_base.specs.Boot.{Registry}
use Rattle.dc_base.specs.Answers.{Answered, order_in, order_answer, core_answer, may_begin, route_answer, await_answer, script_answer, answered_after}
use Rattle.dc_base.specs.Runs.{Seen, run_of}
use Rattle.dc_journal_laws.specs.Clocks.{StartedInTime}
use Rattle.dc_journal_laws.specs.Entries.{command_line, answers, is_post}
use Rattle.dc_journal_laws.specs.Answering.{goes_on, may_make, MadeByWhoMay, AnsweredByLine, NoneLeftOut, AnsweredOnce, RoutedAsSaid, MetWithEnough, UnmetWithFewer}
use Rattle.dc_journal_laws.proofs.Prefixes.{around, clock_is}
use Rattle.dc_journal_laws.proofs.Cases.{Begins, Case, works, carries, begins, posts, does, answers_once, raises, case_of, if_some, routed_by, awaited_by}
use Rattle.dc_journal_laws.proofs.Lists.{each_of-at}
use Rattle.dc_journal_laws.proofs.Waits.{Waits, waits}
use Rattle.dc_journal_laws.proofs.Progress.{IsBelow, Progress, progress}

-- an entry of the command in line q
pub record Answering (lines : List ScriptLine) (a : Answered) (w : What) (q : ℕ) : Type 0 where
  pub place : q ≡ a.place
  -- it goes on with the command, or begins it
  pub either : ((a.begun ≡ true) × (goes_on w ≡ true)) ⊎ Begins lines a q
  pub carried : (a.begun ≡ false → a.posted ≡ None) → a.posted ≡ None

module _ (lines : List ScriptLine) (r : Registry) where
  pub answering_case : (a n : Answered) (e : Entry) → Case lines r a e n → (p : ℕ) → command_line e.what ≡ Some p → Answering lines a e.what p
  answering_case a n e (works c u plain none) p h = let no_line = plain.no_line in absurd cc
  answering_case a n e (carries c u o plain some at) p h = let no_line = plain.no_line in absurd cc
  answering_case a n e (begins q c o more answer begin first) p h =
      let same : q ≡ p = cc in
      record { place = sym same ∙ begin.place; either = inr (subst (Begins lines a) same begin); carried = λ fresh. fresh begin.fresh }
  answering_case a n e (posts q c o more begun at none left) p h = let same : q ≡ p = cc in record { place = sym same ∙ at; either = inl (begun, refl); carried = λ fresh. none }
  answering_case a n e (does q at begun left none) p h = let same : q ≡ p = cc in record { place = sym same ∙ at; either = inl (begun, refl); carried = λ fresh. none }
  answering_case a n e (answers_once q u single begin) p h =
      let of_line = single.of_line in
      let same : q ≡ p = cc in
      record { place = sym same ∙ begin.place; either = inr (subst (Begins lines a) same begin); carried = λ fresh. fresh begin.fresh }
  answering_case a n e (raises q l x at below there) p h = absurd cc

  made_case : (a n : Answered) (e : Entry) → Case lines r a e n → may_make e.actor e.what ≡ true
  made_case a n e (works c u plain none) = plain.made
  made_case a n e (carries c u o plain some at) = plain.made
  made_case a n e (begins q c o more answer begin first) = refl
  made_case a n e (posts q c o more begun at none left) = refl
  made_case a n e (does q at begun left none) = refl
  made_case a n e (answers_once q u single begin) = ap not single.not_made
  made_case a n e (raises q l x at below there) = refl

pub finishes-post : (p q : Bool) → q ≡ true → (p && not q) ≡ true → ⊥
finishes-post true true e h = let bad : false ≡ true = h in cc
finishes-post false true e h = let bad : false ≡ true = h in cc
finishes-post p false e h = cc

module _ (image : Image) (lines : List ScriptLine) (journal : List Entry) (h : run_of image lines journal ≡ true) where
  -- what an entry of a command finds
  pub record Found (before : List Entry) (e : Entry) (q : ℕ) : Type 0 where
    pub seen : Seen
    pub progress : Progress image lines before seen.answered.place seen.answered.begun seen.answered.left
    pub waits : Waits before seen.answered.begun seen.answered.posted
    pub answering : Answering lines seen.answered e.what q

  pub found : (before after : List Entry) (e : Entry) (q : ℕ) → journal ≡ before ++ e ∷ after → command_line e.what ≡ Some q → Found before e q
  found before after e q same at =
      let a = around image lines journal before after e h same in
      let s = a.seen in
      record {
        seen = s;
        progress = progress image lines before s a.run_to;
        waits = waits image lines before s a.run_to;
        answering = answering_case lines s.boot s.answered a.next.answered e (case_of lines s.boot (clock_told s.told) s.answered e a.next.answered a.comes.answered) q at;
      }

  -- two entries, the first of them among those before the second
  pub regrouped : (before between after : List Entry) (d e : Entry) → journal ≡ before ++ d ∷ (between ++ e ∷ after) → journal ≡ (before ++ d ∷ between) ++ e ∷ after
  regrouped before between after d e same = same ∙ sym (append_assoc before (d ∷ between) (e ∷ after))

  pub answered_by_line : AnsweredByLine image lines journal
  answered_by_line before between after d e p q same of_d of_e =
      let f = found (before ++ d ∷ between) after e q (regrouped before between after d e same) of_e in
      let was = each_of-at (IsBelow f.seen.answered.place f.seen.answered.begun) before d between f.progress.below p of_d in
      let here = f.answering.place in (
        elim was [ inl b ↦ omega (arith, b, here) | inr b ↦ (let at = b.at in omega (arith, at, here)) ],
        λ last. elim was [ inl b ↦ omega (arith, b, here) | inr b ↦ absurd (finishes-post (answers p d) (is_post d.what) b.post last) ],
      )

  pub none_left_out : NoneLeftOut image lines journal
  none_left_out before after e p q l same of_e there is_one above =
      let f = found before after e q same of_e in
      let here = f.answering.place in
      f.progress.above p l there is_one (omega (arith, above, here))

  pub answered_once : AnsweredOnce image lines journal
  answered_once before between after d e q same of_d of_e =
      let f = found (before ++ d ∷ between) after e q (regrouped before between after d e same) of_e in
      let was = each_of-at (IsBelow f.seen.answered.place f.seen.answered.begun) before d between f.progress.below q of_d in
      let here = f.answering.place in
      elim was [
        | inl b ↦ absurd (omega (arith, b, here))
        | inr b ↦ elim f.answering.either [ inl t ↦ t.1 | inr begin ↦ absurd (let begun = b.begun in let fresh = begin.fresh in cc) ]
      ]

  pub made_by_who_may : MadeByWhoMay image lines journal
  made_by_who_may before after e same =
      let a = around image lines journal before after e h same in
      let s = a.seen in
      made_case lines s.boot s.answered a.next.answered e (case_of lines s.boot (clock_told s.told) s.answered e a.next.answered a.comes.answered)

  pub routed_as_said : RoutedAsSaid image lines journal
  unfolding answered_after script_answer
  routed_as_said before after q l c same =
      let a = around image lines journal before after (by_script (what.Route q l c)) h same in
      let was = a.seen.answered in
      let t = if_some (may_begin lines was q) (route_answer lines was l.0 c.0 (slice_get lines q)) a.next.answered a.comes.answered in
      (routed_by lines a.seen.boot (clock_told a.seen.told) was q l c a.next.answered (slice_get lines q) refl t.1).in_script

  pub met_with_enough : MetWithEnough image lines journal
  unfolding answered_after script_answer
  met_with_enough before after q b seen same =
      let a = around image lines journal before after (by_script (what.Met q b seen)) h same in
      let was = a.seen.answered in
      let t = if_some (may_begin lines was q) (await_answer lines was b.0 seen true (slice_get lines q)) a.next.answered a.comes.answered in
      let f = awaited_by lines a.seen.boot (clock_told a.seen.told) was q b seen true a.next.answered (slice_get lines q) refl t.1 in
      (f.words, f.awaits, at_least f.words f.enough)
    where
      at_least : (words : ℕ) → nat_le words seen ≡ true → words ≤ seen
      at_least words test = grind (arith, nat_tests)

  pub unmet_with_fewer : UnmetWithFewer image lines journal
  unfolding answered_after script_answer
  unmet_with_fewer before after q b seen same =
      let a = around image lines journal before after (by_script (what.Unmet q b seen)) h same in
      let was = a.seen.answered in
      let t = if_some (may_begin lines was q) (await_answer lines was b.0 seen false (slice_get lines q)) a.next.answered a.comes.answered in
      let f = awaited_by lines a.seen.boot (clock_told a.seen.told) was q b seen false a.next.answered (slice_get lines q) refl t.1 in
      (f.words, f.awaits, fewer f.words f.enough)
    where
      fewer : (words : ℕ) → nat_lt seen words ≡ true → seen < words
      fewer words test = grind (arith, nat_tests)

  pub started_in_time : StartedInTime image lines journal
  unfolding answered_after core_answer
  started_in_time before after c v clock same =
      let a = around image lines journal before after (by_core c (what.Start v clock)) h same in
      let s = a.seen in
      let t = if_some (clock == clock_told s.told c) (order_answer s.answered c (order_in (what.Start v clock))) a.next.answered a.comes.answered in
      shown (clock_told s.told c) t.0 ∙ clock_is image lines before s a.run_to c
    where
      shown : (k : ℕ) → clock == k ≡ true → clock ≡ k
      shown k test = grind arith
