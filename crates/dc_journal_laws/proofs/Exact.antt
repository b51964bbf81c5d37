-- The sentences hold of a journal exactly where it is a run.
use Rattle.std.proofs.Common.{◌≡◌, List, [], ◌∷◌, ◌++◌, Bool, true, false, Option, Some, None, refl, sym, ap, ◌∙◌, subst}
use Rattle.std.specs.Prelude.{◌&&◌, if◌then◌else◌, is_some}
use Rattle.std.proofs.lemmas.List.{append_assoc}
use Rattle.dc_base.specs.declared.images.Image.{Image}
use Rattle.dc_base.specs.declared.commands.ScriptLine.{ScriptLine}
use Rattle.dc_base.specs.declared.entries.Entry.{Entry}
use Rattle.dc_base.specs.Words.{bind}
use Rattle.dc_base.specs.Blocks.{Blocks}
use Rattle.dc_base.specs.BlockSteps.{run_on, blocks_run}
use Rattle.dc_base.specs.Holders.{well_held}
use Rattle.dc_base.specs.StrikeOut.{Told, told_start, told_after, clock_told, events_of, struck_from, struck}
use Rattle.dc_base.specs.Columns.{columns_agree}
use Rattle.dc_base.specs.Answers.{Answered, answered_after, from_on}
use Rattle.dc_base.specs.Runs.{terms_of, Seen, seen_start, seen_after, block_clock, entry_holds, run_step, run_from, run, run_of}
use Rattle.dc_base.proofs.RunLaws.{run_on-append, run-struck}
use Rattle.dc_journal_laws.specs.Whole.{told_from, ColumnsAgree, SentencesHold}
use Rattle.dc_journal_laws.proofs.Tests.{and_true, both}
use Rattle.dc_journal_laws.proofs.Prefixes.{some_of, around, run_snoc, holds_after}
use Rattle.dc_journal_laws.proofs.Holding.{held_once-each, made_by_holders, adopted_free, stops_end, released_in_time, adopted_in_time}
use Rattle.dc_journal_laws.proofs.Booting.{made_by_cores_on, refused_by_table, posted_in_order, done_in_full}
use Rattle.dc_journal_laws.proofs.Answering.{made_by_who_may, answered_by_line, none_left_out, answered_once, routed_as_said, met_with_enough, unmet_with_fewer, started_in_time}
use Rattle.dc_journal_laws.proofs.CarryingOut.{carried_out_as_posted, carried_out_before}
use Rattle.dc_journal_laws.proofs.Raising.{raised_as_said, raised_by_line, no_raise_left_out, raised_after_commands, answered_after_raises}
use Rattle.dc_journal_laws.proofs.ExactHolding.{well}
use Rattle.dc_journal_laws.proofs.ExactRaises.{answered_some}

told_from-append : (t : Told) (es fs : List Entry) → told_from t (es ++ fs) ≡ told_from (told_from t es) fs
told_from-append t [] fs = refl
told_from-append t (e ∷ es) fs = told_from-append (told_after t e) es fs

struck_from-append : (t : Told) (es fs : List Entry) → struck_from t (es ++ fs) ≡ struck_from t es ++ struck_from (told_from t es) fs
struck_from-append t [] fs = refl
struck_from-append t (e ∷ es) fs =
    ap (λ xs. events_of t e.actor e.what ++ xs) (struck_from-append (told_after t e) es fs)
    ∙ sym (append_assoc (events_of t e.actor e.what) (struck_from (told_after t e) es) (struck_from (told_from (told_after t e) es) fs))

first_part : {A B : Type 0} (o : Option A) (f : A → Option B) → is_some (bind o f) ≡ true → is_some o ≡ true
first_part None f h = h
first_part (Some x) f h = refl

module _ (image : Image) (lines : List ScriptLine) where
  told_is : (before : List Entry) (s : Seen) → run image lines before ≡ Some s → s.told ≡ told_from (told_start image) before
  unfolding seen_start
  told_is = holds_after image lines (λ before s. s.told ≡ told_from (told_start image) before) refl
      (λ before s e n r comes p. comes.told ∙ ap (λ t. told_after t e) p ∙ sym (told_from-append (told_start image) before (e ∷ [])))

  -- the columns of each entry of a run agree
  columns : (journal : List Entry) → run_of image lines journal ≡ true → ColumnsAgree image lines journal
  unfolding entry_holds
  columns journal h before after e t same at =
      let a = around image lines journal before after e h same in
      let s = a.seen in
      let holds = well_held image.clocks s.told.holders (block_clock s.blocks) (clock_told s.told) e && from_on s.boot e in
      let agree = (both (columns_agree image.quantum s.told s.blocks e) holds a.comes.holds).0 in
      let known = run-struck image lines before s a.run_to in
      let blocks : s.blocks ≡ t = cc in
      subst (λ told. columns_agree image.quantum told t e ≡ true) (told_is before s a.run_to) (subst (λ b. columns_agree image.quantum s.told b e ≡ true) blocks agree)

  -- each sentence holds of a run
  pub said_of : (journal : List Entry) → run_of image lines journal ≡ true → SentencesHold image lines journal
  said_of journal h =
      let whole = some_of (run image lines journal) h in
      record {
        blocks = ap is_some (run-struck image lines journal whole.0 whole.1);
        columns = columns journal h;
        held_once = held_once-each image lines journal h;
        holders = made_by_holders image lines journal h;
        adopted = adopted_free image lines journal h;
        stopped = stops_end image lines journal h;
        released_time = released_in_time image lines journal h;
        adopted_time = adopted_in_time image lines journal h;
        started_time = started_in_time image lines journal h;
        on = made_by_cores_on image lines journal h;
        refused = refused_by_table image lines journal h;
        posted = posted_in_order image lines journal h;
        done = done_in_full image lines journal h;
        makers = made_by_who_may image lines journal h;
        answered = answered_by_line image lines journal h;
        none_left_out = none_left_out image lines journal h;
        once = answered_once image lines journal h;
        routed = routed_as_said image lines journal h;
        met = met_with_enough image lines journal h;
        unmet = unmet_with_fewer image lines journal h;
        carried_out = carried_out_as_posted image lines journal h;
        carried_before = carried_out_before image lines journal h;
        raised = raised_as_said image lines journal h;
        raised_by_line = raised_by_line image lines journal h;
        no_raise_left_out = no_raise_left_out image lines journal h;
        raised_after = raised_after_commands image lines journal h;
        answered_after = answered_after_raises image lines journal h;
      }

  module _ (journal : List Entry) (said : SentencesHold image lines journal) where
    -- the events of the next entry are enabled
    enabled : (before after : List Entry) (s : Seen) (e : Entry) → run image lines before ≡ Some s → journal ≡ before ++ e ∷ after → is_some (run_on s.blocks (events_of s.told e.actor e.what)) ≡ true
    unfolding struck
    enabled before after s e r same =
        let start = told_start image in
        let events = events_of s.told e.actor e.what in
        let more = struck_from (told_after s.told e) after in
        let whole : is_some (blocks_run image (struck image before ++ (events ++ more))) ≡ true =
        ap (λ xs. is_some (blocks_run image (struck_from start before ++ xs))) (ap (λ t. struck_from t (e ∷ after)) (told_is before s r))
        ∙ ap (λ xs. is_some (blocks_run image xs)) (sym (struck_from-append start before (e ∷ after)))
        ∙ ap (λ es. is_some (blocks_run image (struck_from start es))) (sym same) ∙ said.blocks in
        let here : is_some (run_on s.blocks (events ++ more)) ≡ true =
        ap (λ o. is_some (bind o (λ t. run_on t (events ++ more)))) (sym (run-struck image lines before s r)) ∙ ap is_some (sym (run_on-append _ (struck image before) (events ++ more))) ∙ whole in
        first_part (run_on s.blocks events) (λ t. run_on t more) (ap is_some (sym (run_on-append s.blocks events more)) ∙ here)

    holds_now : (before after : List Entry) (s : Seen) (e : Entry) → run image lines before ≡ Some s → journal ≡ before ++ e ∷ after → entry_holds (terms_of image) s e ≡ true
    unfolding entry_holds
    holds_now before after s e r same =
        let agree = said.columns before after e s.blocks same (run-struck image lines before s r) in
        and_true (columns_agree image.quantum s.told s.blocks e) (well_held image.clocks s.told.holders (block_clock s.blocks) (clock_told s.told) e && from_on s.boot e)
        (subst (λ told. columns_agree image.quantum told s.blocks e ≡ true) (sym (told_is before s r)) agree) (well image lines journal said before after s r e same)

    step_by : (s : Seen) (e : Entry) (o : Option Blocks) (a : Option Answered) (h : Bool) → is_some o ≡ true → is_some a ≡ true → h ≡ true →
        is_some (bind o (λ blocks. bind a (λ answered. if h then Some (seen_after s e blocks answered) else None))) ≡ true
    step_by s e None a h p q t = absurd (let bad : false ≡ true = p in cc)
    step_by s e (Some b) None h p q t = absurd (let bad : false ≡ true = q in cc)
    step_by s e (Some b) (Some n) false p q t = absurd (let bad : false ≡ true = t in cc)
    step_by s e (Some b) (Some n) true p q t = refl

    step_some : (before after : List Entry) (s : Seen) (e : Entry) → run image lines before ≡ Some s → journal ≡ before ++ e ∷ after → is_some (run_step (terms_of image) lines s e) ≡ true
    unfolding run_step
    step_some before after s e r same =
        step_by s e (run_on s.blocks (events_of s.told e.actor e.what)) (answered_after lines s.boot (clock_told s.told) s.answered e) (entry_holds (terms_of image) s e)
        (enabled before after s e r same) (answered_some image lines journal said before after s r e same) (holds_now before after s e r same)

    goes_on : (before after : List Entry) (s : Seen) → run image lines before ≡ Some s → journal ≡ before ++ after → is_some (run_from (terms_of image) lines s after) ≡ true
    goes_on before [] s r same = refl
    goes_on before (e ∷ es) s r same =
        let one = some_of (run_step (terms_of image) lines s e) (step_some before es s e r same) in
        ap (λ o. is_some (bind o (λ t. run_from (terms_of image) lines t es))) one.1
        ∙ goes_on (before ++ e ∷ []) es one.0 (run_snoc image lines before s e one.0 r one.1) (same ∙ sym (append_assoc before (e ∷ []) es))

    -- a journal of which the sentences hold is a run
    pub is_run : run_of image lines journal ≡ true
    unfolding run
    is_run = goes_on [] journal (seen_start image lines) refl refl
