-- A run of a schedule goes on by an action, and its text by a line.
use Rattle.std.proofs.Common.{◌≡◌, ◌∙◌, ◌≤◌, ℕ, zero, suc, ◌+◌, List, [], ◌∷◌, ◌++◌, refl, sym, ap, subst, arith, length, length-append, append_assoc, drop, Option, Some, None}
use Rattle.std.specs.Prelude.{slice_get}
use Rattle.std.proofs.lemmas.List.{append-nil}
use Rattle.dc_base.specs.declared.actions.Actor.{Actor}
use Rattle.dc_base.specs.declared.actions.Action.{Action}
use Rattle.dc_base.specs.declared.entries.Entry.{Entry}
use Rattle.dc_base.specs.declared.entries.Reason.{Reason}
use Rattle.dc_base.specs.TextWords.{ended}
use Rattle.dc_base.specs.EntryText.{entry_text, journal_from, journal_text}
use Rattle.dc_base.specs.States.{State}
use Rattle.dc_base.specs.Turns.{Outcome, did, not_enabled, spent}
use Rattle.dc_base.specs.Changes.{Change, apply}
use Rattle.dc_base.specs.Cores.{core_step}
use Rattle.dc_base.specs.CoreRuns.{Run, after_outcome, core_run_from, polls_after, polls_at, run_all}
use Rattle.dc_io.specs.Told.{Adds, AddsPrefix}
use Rattle.dc_play.specs.Playing.{IsPlaying}
use Rattle.dc_play.proofs.Adding.{adds_more, adds_none, prefix_more}
use Rattle.dc_play.proofs.RunTexts.{journal_from-append, run_all-goes_on}

-- the actions that are left begin with this one
pub drop-next : {A : Type 0} (xs : List A) (i : ℕ) (x : A) → slice_get xs i ≡ Some x → drop i xs ≡ x ∷ drop (i + 1) xs
drop-next [] i x h = cc
drop-next (y ∷ xs) zero x h = let same : y ≡ x = cc in ap (λ z. z ∷ xs) same
drop-next (y ∷ xs) (suc i) x h =
    let next : suc (i + 1) ≡ suc i + 1 = omega arith in
    drop-next xs i x h ∙ ap (λ (k : ℕ). x ∷ drop k (y ∷ xs)) next

drop-past : {A : Type 0} (xs : List A) (i : ℕ) → length xs ≤ i → drop i xs ≡ []
drop-past [] zero h = refl
drop-past [] (suc i) h = refl
drop-past (x ∷ xs) zero h = absurd (omega (arith, h))
drop-past (x ∷ xs) (suc i) h = drop-past xs i (omega (arith, h))

-- before the first action
pub begins : (start : State) (schedule : List (Actor × Action)) (told : Option (List ℕ)) → IsPlaying start schedule 0 told told start 0 0 0
unfolding core_run_from journal_text
begins start schedule told = record {
  run = record { state = start; polls = 0; journal = []; skipped = 0 };
  same_state = refl;
  same_polls = refl;
  same_entries = refl;
  same_skipped = refl;
  rest = refl;
  text = adds_none told told refl;
}

-- where nothing is told, nothing need be written
pub adds_untold : (text : List ℕ) → Adds None None text
adds_untold text = record { added = λ told e. cc }

module _ (start : State) (schedule : List (Actor × Action)) (i : ℕ) (told now : Option (List ℕ)) (state : State) (polls entries skipped : ℕ) (p : IsPlaying start schedule i told now state polls entries skipped) where
  -- after the last action
  pub ends : length schedule ≤ i → core_run_from start schedule ≡ p.run
  ends done = p.rest ∙ ap (λ (xs : List (Actor × Action)). run_all p.run xs) (drop-past schedule i done)

  -- the text with one line more
  one_line : (e : Entry) → journal_text (p.run.journal ++ e ∷ []) ≡ journal_text p.run.journal ++ ended (entry_text entries e)
  unfolding journal_text
  one_line e =
      journal_from-append 0 p.run.journal (e ∷ []) ∙ ap (λ (k : ℕ). journal_from 0 p.run.journal ++ journal_from k (e ∷ [])) (omega (arith, p.same_entries))
      ∙ ap (λ (line : List ℕ). journal_from 0 p.run.journal ++ line) (append-nil (ended (entry_text entries e)))

  module _ (a : Actor × Action) (there : slice_get schedule i ≡ Some a) where
    rest_by : (o : Outcome) → core_step state polls a.0 a.1 ≡ o → core_run_from start schedule ≡ run_all (after_outcome p.run a.1 o) (drop (i + 1) schedule)
    rest_by o h =
        let same : core_step p.run.state p.run.polls a.0 a.1 ≡ o = ap (λ (s : State). core_step s p.run.polls a.0 a.1) (sym p.same_state) ∙ ap (λ (k : ℕ). core_step state k a.0 a.1) (sym p.same_polls) ∙ h in
        p.rest ∙ ap (λ (xs : List (Actor × Action)). run_all p.run xs) (drop-next schedule i a there)
        ∙ ap (λ (x : Outcome). run_all (after_outcome p.run a.1 x) (drop (i + 1) schedule)) same

    -- the action made an entry, and its line was written
    pub makes : (changes : List Change) (e : Entry) (later : Option (List ℕ)) → core_step state polls a.0 a.1 ≡ did changes e → Adds now later (ended (entry_text entries e)) →
        IsPlaying start schedule (i + 1) told later (apply state changes) (polls_after a.1 polls) (entries + 1) skipped
    makes changes e later h line = record {
      run = after_outcome p.run a.1 (did changes e);
      same_state = ap (λ (s : State). apply s changes) p.same_state;
      same_polls = ap (λ (k : ℕ). polls_after a.1 k) p.same_polls;
      same_entries = omega (arith, p.same_entries, length-append p.run.journal (e ∷ []));
      same_skipped = p.same_skipped;
      rest = rest_by (did changes e) h;
      text =
          subst (λ (text : List ℕ). Adds told later text) (sym (one_line e))
          (adds_more told now later (journal_text p.run.journal) (ended (entry_text entries e)) p.text line);
    }

    -- the action was not enabled
    pub is_not_enabled : (why : Reason) → core_step state polls a.0 a.1 ≡ not_enabled why → IsPlaying start schedule (i + 1) told now state (polls_at why polls) entries (skipped + 1)
    is_not_enabled why h = record {
      run = after_outcome p.run a.1 (not_enabled why);
      same_state = p.same_state;
      same_polls = ap (λ (k : ℕ). polls_at why k) p.same_polls;
      same_entries = p.same_entries;
      same_skipped = omega (arith, p.same_skipped);
      rest = rest_by (not_enabled why) h;
      text = p.text;
    }

    -- the core's slices are spent
    pub is_spent : core_step state polls a.0 a.1 ≡ spent → IsPlaying start schedule (i + 1) told now state polls entries (skipped + 1)
    is_spent h = record {
      run = after_outcome p.run a.1 spent;
      same_state = p.same_state;
      same_polls = p.same_polls;
      same_entries = p.same_entries;
      same_skipped = omega (arith, p.same_skipped);
      rest = rest_by spent h;
      text = p.text;
    }

    -- the whole text begins with what was written and the next line
    whole_by : (changes : List Change) (e : Entry) → core_step state polls a.0 a.1 ≡ did changes e →
        (text : List ℕ) × (journal_text (core_run_from start schedule).journal ≡ journal_text p.run.journal ++ (ended (entry_text entries e) ++ text))
    unfolding journal_text
    whole_by changes e h =
        let after : Run = after_outcome p.run a.1 (did changes e) in
        let on = run_all-goes_on after (drop (i + 1) schedule) in
        let journal : (core_run_from start schedule).journal ≡ (p.run.journal ++ e ∷ []) ++ on.more = ap (λ (r : Run). r.journal) (rest_by (did changes e) h) ∙ on.longer in
        let whole : List Entry → List ℕ = λ js. journal_from 0 js in (
          journal_from (entries + 1) on.more,
          ap whole journal ∙ ap whole (append_assoc p.run.journal (e ∷ []) on.more) ∙ journal_from-append 0 p.run.journal (e ∷ on.more)
              ∙ ap (λ (k : ℕ). journal_from 0 p.run.journal ++ journal_from k (e ∷ on.more)) (omega (arith, p.same_entries)),
        )

    -- the action made an entry, and a part of its line was written
    pub fails : (changes : List Change) (e : Entry) (later : Option (List ℕ)) → core_step state polls a.0 a.1 ≡ did changes e → AddsPrefix now later (ended (entry_text entries e)) →
        AddsPrefix told later (journal_text (core_run_from start schedule).journal)
    fails changes e later h line =
        let whole = whole_by changes e h in
        subst (λ (text : List ℕ). AddsPrefix told later text) (sym whole.1) (prefix_more told now later (journal_text p.run.journal) (ended (entry_text entries e)) whole.0 p.text line)
