-- The entry of a refused command follows.
use Rattle.std.proofs.Common.{◌≡◌, List, ◌∷◌, [], Some, None, refl, sym, ap, ◌∙◌}
use Rattle.std.specs.Prelude.{slice_get, if◌then◌else◌}
use Rattle.dc_base.specs.declared.commands.Command.{Command}
use Rattle.dc_base.specs.declared.commands.Refusal.{Refusal}
use Rattle.dc_base.specs.declared.commands.ScriptLine.{ScriptLine}
use Rattle.dc_base.specs.declared.commands.ScriptLine.TheVariants as line
use Rattle.dc_base.specs.declared.entries.What.TheVariants as what
use Rattle.dc_base.specs.Blocks.{Blocks}
use Rattle.dc_base.specs.Boot.{refusal}
use Rattle.dc_base.specs.Script.{next_raise}
use Rattle.dc_base.specs.States.{State}
use Rattle.dc_base.specs.Changes.{script_becomes}
use Rattle.dc_base.specs.Turns.{did}
use Rattle.dc_base.specs.Outcomes.{by_script}
use Rattle.dc_base.specs.Commands.{at_next_command, raise_above}
use Rattle.dc_base.specs.StandsFor.{StandsFor}
use Rattle.dc_base.specs.Answers.{may_begin, only_if, is_this_refusal, refused_answer, finished}
use Rattle.dc_base.specs.Runs.{Terms}
use Rattle.dc_base.specs.Sound.{IsSound}
use Rattle.dc_base.specs.Progress.{boot_of}
use Rattle.dc_base.specs.Telling.{IsOf, answered_of}
use Rattle.dc_base.proofs.SameLaws.{is_same_refusal-refl}
use Rattle.dc_refine.proofs.Beside.{same_wires}
use Rattle.dc_refine.proofs.Good.{Good}
use Rattle.dc_refine.proofs.Heads.{events_open, columns_open, answer_open}
use Rattle.dc_refine.proofs.Quiet.{quiet, may_begin-at}

module _ (terms : Terms) (lines : List ScriptLine) (s : State) (t : Blocks) (of : IsOf terms lines s) (sound : IsSound s) (stands : StandsFor s t)
    (none_above : raise_above s.script.place (next_raise s.script.lines s.script.raises) ≡ None)
    (command : Command) (at : slice_get s.script.lines s.script.place ≡ Some (line.Boot command)) (idle : s.script.posts ≡ 0) (r : Refusal) (refused : refusal s.script.registry command ≡ Some r) where
  refused_answers : (if may_begin lines (answered_of s) s.script.place then refused_answer lines (boot_of s) (answered_of s) r (slice_get lines s.script.place) else None) ≡ Some (answered_of (record s { script = at_next_command s.script }))
  refused_answers =
      ap (λ ls. if may_begin ls (answered_of s) s.script.place then refused_answer ls (boot_of s) (answered_of s) r (slice_get ls s.script.place) else None) of.same_lines
      ∙ ap (λ v. if v then refused_answer s.script.lines (boot_of s) (answered_of s) r (slice_get s.script.lines s.script.place) else None) (may_begin-at s (line.Boot command) at (λ h. h) idle none_above)
      ∙ ap (refused_answer s.script.lines (boot_of s) (answered_of s) r) at
      ∙ ap (λ o. only_if (is_this_refusal r o) (finished s.script.lines (answered_of s))) (ap (λ g. refusal g command) (sym (sound.registered.idle idle)) ∙ refused)
      ∙ ap (λ v. only_if v (finished s.script.lines (answered_of s))) (is_same_refusal-refl r)

  pub refused_good : Good terms lines s t (did (script_becomes (at_next_command s.script) ∷ []) (by_script (what.Refused s.script.place r)))
  unfolding answer_open events_open columns_open
  refused_good = quiet terms lines s t stands (what.Refused s.script.place r) (at_next_command s.script) s.mailboxes s.lines (same_wires s.lines) refl refl refused_answers (record { settings = refl; lines = refl })
