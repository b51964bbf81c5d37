-- What was counted sums up the run.
use Rattle.std.proofs.Common.{◌≡◌, ◌≤◌, ℕ, List, sym, ap, ◌∙◌, subst, arith, length}
use Rattle.std.specs.Prelude.{◌%◌, ◌^◌, sum, flat_map}
use Rattle.dc_base.specs.declared.actions.Actor.{Actor}
use Rattle.dc_base.specs.declared.actions.Action.{Action}
use Rattle.dc_base.specs.declared.commands.ScriptLine.{ScriptLine}
use Rattle.dc_base.specs.declared.images.Image.{Image}
use Rattle.dc_base.specs.CoreRuns.{Run, core_run, core_run_from}
use Rattle.dc_base.specs.Sound.{IsSound}
use Rattle.dc_base.specs.States.{State, core_start, settings_of}
use Rattle.dc_base.specs.Valid.{IsValidSchedule}
use Rattle.dc_play.specs.declared.counting.Counts.{Counts}
use Rattle.dc_play.specs.Summaries.{IsSummaryOf}
use Rattle.dc_play.proofs.Starting.{start_settings}

-- a schedule for the image is one for its start
pub start_valid : (image : Image) (script : List ScriptLine) (schedule : List (Actor × Action)) (start : State) → start ≡ core_start image script → IsValidSchedule (settings_of image) schedule → IsValidSchedule start.script.settings schedule
start_valid image script schedule start e h = subst (λ t. IsValidSchedule t schedule) (sym (ap (λ (s : State). s.script.settings) e ∙ start_settings image script)) h

-- a sound machine has at most 16 consoles
pub few_consoles : (s : State) (consoles : List (List ℕ)) → IsSound s → consoles ≡ s.consoles → length consoles ≤ 16
few_consoles s consoles h e = let a = ap length e ∙ h.settled.consoles in let b = h.settled.limits.blocks.1 in omega (arith, a, b)

pub summed : (image : Image) (script : List ScriptLine) (schedule : List (Actor × Action)) (start new : State) (consoles : List (List ℕ)) (n : Counts) (outputs total : ℕ) →
    start ≡ core_start image script → new ≡ (core_run_from start schedule).state → n.entries ≡ length (core_run_from start schedule).journal → n.skipped ≡ (core_run_from start schedule).skipped →
    consoles ≡ new.consoles → outputs ≡ length (flat_map (λ ws. ws) consoles) → total ≡ sum (flat_map (λ ws. ws) consoles) % 2 ^ 32 →
    IsSummaryOf (core_run image script schedule) (record { entries = n.entries; skipped = n.skipped; outputs = outputs; sum = total })
unfolding core_run
summed image script schedule start new consoles n outputs total a c d e f g h =
    let run : core_run_from start schedule ≡ core_run_from (core_start image script) schedule = ap (λ (s : State). core_run_from s schedule) a in
    let put : consoles ≡ (core_run_from (core_start image script) schedule).state.consoles = f ∙ ap (λ (s : State). s.consoles) c ∙ ap (λ (r : Run). r.state.consoles) run in
    record {
      entries = d ∙ ap (λ (r : Run). length r.journal) run;
      skipped = e ∙ ap (λ (r : Run). r.skipped) run;
      outputs = g ∙ ap (λ (xs : List (List ℕ)). length (flat_map (λ ws. ws) xs)) put;
      total = h ∙ ap (λ (xs : List (List ℕ)). sum (flat_map (λ ws. ws) xs) % 2 ^ 32) put;
    }
