-- The sentences on how cores carry out the orders that the script posts.
use Rattle.std.proofs.Common.{◌≡◌, ◌⊎◌, inl, inr, ℕ, List, [], ◌∷◌, ◌++◌, Bool, true, false, Option, Some, None, refl, sym, ap, ◌∙◌}
use Rattle.std.specs.Prelude.{is_none}
use Rattle.std.proofs.lemmas.List.{append_assoc, append_cancel_left}
use Rattle.std.proofs.lemmas.Grind.{flat_map-append}
use Rattle.dc_base.specs.declared.images.Image.{Image}
use Rattle.dc_base.specs.declared.actions.Actor.{Actor}
use Rattle.dc_base.specs.declared.actions.Actor.TheVariants as actor
use Rattle.dc_base.specs.declared.numbers.CoreNo.{CoreNo}
use Rattle.dc_base.specs.declared.commands.Order.{Order}
use Rattle.dc_base.specs.declared.commands.ScriptLine.{ScriptLine}
use Rattle.dc_base.specs.declared.entries.Entry.{Entry}
use Rattle.dc_base.specs.declared.entries.What.{What}
use Rattle.dc_base.specs.declared.entries.What.TheVariants as what
use Rattle.dc_base.specs.Outcomes.{by_core, by_script}
use Rattle.dc_base.specs.StrikeOut.{clock_told}
use Rattle.dc_base.specs.Boot.{Registry}
use Rattle.dc_base.specs.Answers.{Answered, order_in}
use Rattle.dc_base.specs.Runs.{run_of}
use Rattle.dc_journal_laws.specs.Entries.{command_line, no_commands, post_in, posted, carried_in, carried_out}
use Rattle.dc_journal_laws.specs.CarryingOut.{CarriedOutAsPosted, CarriedOutBefore, CarriedOutOnce, OneAtMost}
use Rattle.dc_journal_laws.proofs.Prefixes.{around, run_part}
use Rattle.dc_journal_laws.proofs.Tests.{both}
use Rattle.dc_journal_laws.proofs.Cases.{Case, works, carries, begins, posts, does, answers_once, raises, case_of}
use Rattle.dc_journal_laws.proofs.Waits.{Waits, waits}
use Rattle.dc_journal_laws.proofs.Answering.{found}

module _ (lines : List ScriptLine) (r : Registry) where
  -- an order entry is that of the order that waits
  abbrev Carrying : Answered → Actor → What → Type 0
  Carrying a (actor.Core c) w = (o : Order) → order_in w ≡ Some o → a.posted ≡ Some (c.0, o)
  Carrying a actor.Script w = Unit {0}

  carrying_case : (a n : Answered) (e : Entry) → Case lines r a e n → Carrying a e.actor e.what
  carrying_case a n e (works c u plain none) = λ o h. absurd cc
  carrying_case a n e (carries c u o plain some at) = λ p h. let same : o ≡ p = cc in at ∙ ap (λ x. Some (c, x)) same
  carrying_case a n e (begins q c o more answer begin first) = tt
  carrying_case a n e (posts q c o more begun at none left) = tt
  carrying_case a n e (does q at begun left none) = tt
  carrying_case a n e (answers_once q u single begin) = tt
  carrying_case a n e (raises q l x at below there) = tt

silent : (w : What) → is_none (command_line w) ≡ true → post_in w ≡ []
silent (what.Post q c o) h = absurd (let bad : false ≡ true = h in cc)
silent w h = refl

-- where no command makes an entry, nothing is posted
none_posted : (es : List Entry) → no_commands es ≡ true → posted es ≡ []
none_posted [] h = refl
none_posted (e ∷ es) h =
    let parts = both (is_none (command_line e.what)) (no_commands es) h in
    ap (λ os. os ++ posted es) (silent e.what parts.0) ∙ none_posted es parts.1

-- one list is another and one more
last_of : (x y : ℕ × Order) (os : List (ℕ × Order)) → x ∷ [] ≡ os ++ y ∷ [] → os ≡ []
last_of x y [] h = refl
last_of x y (o ∷ []) h = absurd cc
last_of x y (o ∷ (p ∷ os)) h = absurd cc

module _ (before between : List Entry) (q : ℕ) (c : CoreNo) (o : Order) (quiet : no_commands between ≡ true) where
  abbrev stretch : List Entry
  stretch = before ++ by_script (what.Post q c o) ∷ between

  posted-stretch : posted stretch ≡ posted before ++ (c.0, o) ∷ []
  posted-stretch =
      flat_map-append (λ (e : Entry). post_in e.what) before (by_script (what.Post q c o) ∷ between)
      ∙ ap (λ os. posted before ++ (c.0, o) ∷ os) (none_posted between quiet)

  carried-stretch : carried_out stretch ≡ carried_out before ++ carried_out between
  carried-stretch = flat_map-append (λ (e : Entry). carried_in e.actor e.what) before (by_script (what.Post q c o) ∷ between)

  -- where all is carried out before the post and after the stretch
  once_by : posted before ≡ carried_out before → posted stretch ≡ carried_out stretch → carried_out between ≡ (c.0, o) ∷ []
  once_by was now =
      sym (append_cancel_left (carried_out before) ((c.0, o) ∷ []) (carried_out between)
      (ap (λ os. os ++ (c.0, o) ∷ []) (sym was) ∙ sym posted-stretch ∙ now ∙ carried-stretch))

  -- where one order waits after the stretch
  none_by : (p : ℕ × Order) → posted before ≡ carried_out before → posted stretch ≡ carried_out stretch ++ p ∷ [] → carried_out between ≡ []
  none_by p was now =
      last_of (c.0, o) p (carried_out between)
      (append_cancel_left (carried_out before) ((c.0, o) ∷ []) (carried_out between ++ p ∷ [])
      (ap (λ os. os ++ (c.0, o) ∷ []) (sym was) ∙ sym posted-stretch ∙ now ∙ ap (λ os. os ++ p ∷ []) carried-stretch ∙ append_assoc (carried_out before) (carried_out between) (p ∷ [])))

  at_most_by : (begun : Bool) (waiting : Option (ℕ × Order)) → posted before ≡ carried_out before → Waits stretch begun waiting → (carried_out between ≡ []) ⊎ (carried_out between ≡ (c.0, o) ∷ [])
  at_most_by begun None was w = inr (once_by was (w.none refl))
  at_most_by begun (Some p) was w = inl (none_by p was (w.some p refl))

module _ (image : Image) (lines : List ScriptLine) (journal : List Entry) (h : run_of image lines journal ≡ true) where
  pub carried_out_before : CarriedOutBefore image lines journal
  carried_out_before before after e q same of_e =
      let f = found image lines journal h before after e q same of_e in f.waits.none (f.answering.carried f.waits.fresh)

  pub carried_out_as_posted : CarriedOutAsPosted image lines journal
  carried_out_as_posted before after c w o same at =
      let a = around image lines journal before after (by_core c w) h same in
      let s = a.seen in
      (waits image lines before s a.run_to).some (c, o)
      (carrying_case lines s.boot s.answered a.next.answered (by_core c w) (case_of lines s.boot (clock_told s.told) s.answered (by_core c w) a.next.answered a.comes.answered) o at)

  pub carried_out_once : CarriedOutOnce image lines journal
  carried_out_once before between after q p c o e same quiet of_e =
      let post = by_script (what.Post q c o) in
      once_by before between q c o quiet (carried_out_before before (between ++ e ∷ after) post q same refl)
      (carried_out_before (before ++ post ∷ between) after e p (same ∙ sym (append_assoc before (post ∷ between) (e ∷ after))) of_e)

  pub one_at_most : OneAtMost image lines journal
  one_at_most before between after q c o same quiet =
      let post = by_script (what.Post q c o) in
      let part = run_part image lines journal (before ++ post ∷ between) after h (same ∙ sym (append_assoc before (post ∷ between) after)) in
      at_most_by before between q c o quiet part.0.answered.begun part.0.answered.posted (carried_out_before before (between ++ after) post q same refl)
      (waits image lines (before ++ post ∷ between) part.0 part.1)
