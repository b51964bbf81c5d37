-- The entries of an await follow: met and unmet.
use Rattle.std.proofs.Common.{◌≡◌, ℕ, ◌+◌, ◌<◌, List, [], ◌∷◌, length, Bool, true, false, Option, Some, None, refl, sym, ap, ◌∙◌, map, arith}
use Rattle.std.specs.Prelude.{slice_get, nat_lt, nat_le, ◌&&◌, if◌then◌else◌}
use Rattle.std.specs.Option.{option_map}
use Rattle.std.proofs.lemmas.Option.{slice_get-map}
use Rattle.std.proofs.lemmas.Bool.Decides.{nat_tests}
use Rattle.dc_base.specs.declared.numbers.BlockNo.{BlockNo}
use Rattle.dc_base.specs.declared.commands.ScriptLine.{ScriptLine}
use Rattle.dc_base.specs.declared.commands.ScriptLine.TheVariants as line
use Rattle.dc_base.specs.declared.entries.Reason.TheVariants as reason
use Rattle.dc_base.specs.declared.entries.What.TheVariants as what
use Rattle.dc_base.specs.Words.{is_number}
use Rattle.dc_base.specs.Blocks.{Blocks}
use Rattle.dc_base.specs.Blocks as blocks
use Rattle.dc_base.specs.Script.{next_raise}
use Rattle.dc_base.specs.States.{State}
use Rattle.dc_base.specs.Changes.{script_becomes}
use Rattle.dc_base.specs.Turns.{did, not_enabled}
use Rattle.dc_base.specs.Outcomes.{by_script}
use Rattle.dc_base.specs.Commands.{at_next_command, await_outcome, raise_above}
use Rattle.dc_base.specs.StandsFor.{StandsFor}
use Rattle.dc_base.specs.ScriptColumns.{has_put_out}
use Rattle.dc_base.specs.Answers.{may_begin, only_if, await_answer, finished}
use Rattle.dc_base.specs.Runs.{Terms}
use Rattle.dc_base.specs.Sound.{IsSound}
use Rattle.dc_base.specs.Telling.{IsOf, answered_of}
use Rattle.dc_refine.proofs.Beside.{same_wires}
use Rattle.dc_refine.proofs.Follow.{Gives}
use Rattle.dc_refine.proofs.Good.{Good}
use Rattle.dc_refine.proofs.Heads.{events_open, columns_open, answer_open}
use Rattle.dc_refine.proofs.Quiet.{same_number, quiet, may_begin-at, no_posts}

module _ (terms : Terms) (lines : List ScriptLine) (s : State) (t : Blocks) (of : IsOf terms lines s) (sound : IsSound s) (stands : StandsFor s t)
    (none_above : raise_above s.script.place (next_raise s.script.lines s.script.raises) ≡ None) where
  -- the words that the block has put out are those of its console
  put_out : (b : ℕ) (ws : List ℕ) → slice_get s.consoles b ≡ Some ws → has_put_out t b (length ws) ≡ true
  put_out b ws at =
      let outputs : slice_get (map (λ (x : blocks.Block). x.output) t.blocks) b ≡ Some ws = ap (λ l. slice_get l b) stands.blocks.outputs ∙ at in
      ap (is_number (length ws)) (words_by (slice_get t.blocks b) (sym (slice_get-map (λ (x : blocks.Block). x.output) t.blocks b) ∙ outputs)) ∙ same_number (length ws)
    where
      words_by : (o : Option blocks.Block) → option_map (λ (x : blocks.Block). x.output) o ≡ Some ws → option_map (λ (x : blocks.Block). length x.output) o ≡ Some (length ws)
      words_by None e = cc
      words_by (Some x) e = let f : x.output ≡ ws = cc in ap (λ l. Some (length l)) f

  abbrev next : State
  next = record s { script = at_next_command s.script }

  module _ (b : BlockNo) (words limit : ℕ) (at : slice_get s.script.lines s.script.place ≡ Some (line.Await b words limit)) where
    begins : may_begin s.script.lines (answered_of s) s.script.place ≡ true
    begins = may_begin-at s (line.Await b words limit) at (λ h. h) (no_posts s (line.Await b words limit) sound.in_form at refl) none_above

    await_answers : (seen : ℕ) (is_met : Bool) → (if is_met then nat_le words seen else nat_lt seen words) ≡ true →
        (if may_begin lines (answered_of s) s.script.place then await_answer lines (answered_of s) b.0 seen is_met (slice_get lines s.script.place) else None) ≡ Some (answered_of (record s { script = at_next_command s.script }))
    await_answers seen is_met test =
        ap (λ ls. if may_begin ls (answered_of s) s.script.place then await_answer ls (answered_of s) b.0 seen is_met (slice_get ls s.script.place) else None) of.same_lines
        ∙ ap (λ v. if v then await_answer s.script.lines (answered_of s) b.0 seen is_met (slice_get s.script.lines s.script.place) else None) begins
        ∙ ap (await_answer s.script.lines (answered_of s) b.0 seen is_met) at
        ∙ ap (λ v. only_if (v && (if is_met then nat_le words seen else nat_lt seen words)) (finished s.script.lines (answered_of s))) (same_number b.0)
        ∙ ap (λ v. only_if v (finished s.script.lines (answered_of s))) test

    met_good : (ws : List ℕ) → slice_get s.consoles b.0 ≡ Some ws → nat_le words (length ws) ≡ true → Gives terms lines s t (by_script (what.Met s.script.place b (length ws))) next
    unfolding answer_open events_open columns_open
    met_good ws there test = quiet terms lines s t stands (what.Met s.script.place b (length ws)) (at_next_command s.script) s.mailboxes s.lines (same_wires s.lines) refl (put_out b.0 ws there) (await_answers (length ws) true test) (record { settings = refl; lines = refl })

    unmet_good : (ws : List ℕ) → slice_get s.consoles b.0 ≡ Some ws → nat_lt (length ws) words ≡ true → Gives terms lines s t (by_script (what.Unmet s.script.place b (length ws))) next
    unfolding answer_open events_open columns_open
    unmet_good ws there test = quiet terms lines s t stands (what.Unmet s.script.place b (length ws)) (at_next_command s.script) s.mailboxes s.lines (same_wires s.lines) refl (put_out b.0 ws there) (await_answers (length ws) false test) (record { settings = refl; lines = refl })

    poll_by : (polls : ℕ) (ws : List ℕ) → slice_get s.consoles b.0 ≡ Some ws → (v u : Bool) → nat_le words (length ws) ≡ v →
        Good terms lines s t (if v then did (script_becomes (at_next_command s.script) ∷ []) (by_script (what.Met s.script.place b (length ws)))
        else (if u then not_enabled (reason.Few (length ws) (polls + 1)) else did (script_becomes (at_next_command s.script) ∷ []) (by_script (what.Unmet s.script.place b (length ws)))))
    poll_by polls ws there true u e = met_good ws there e
    poll_by polls ws there false true e = tt
    poll_by polls ws there false false e = unmet_good ws there (let f : length ws < words = grind (arith, nat_tests, e) in grind (arith, nat_tests, f))

    -- a poll follows, whether it is met, unmet or goes on
    pub await_good : (polls : ℕ) (o : Option (List ℕ)) → slice_get s.consoles b.0 ≡ o → Good terms lines s t (await_outcome s.script polls b words limit o)
    await_good polls None e = tt
    await_good polls (Some ws) e = poll_by polls ws e (nat_le words (length ws)) (nat_lt (polls + 1) limit) refl
