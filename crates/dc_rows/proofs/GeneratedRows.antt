-- The generated input, computed.
use Rattle.std.specs.Prelude.{◌≡◌, [], ◌∷◌, refl, Ok}
use Rattle.dc_base.specs.declared.commands.Bounds.{Bounds}
use Rattle.dc_base.specs.ScriptText.{script_of}
use Rattle.dc_base.specs.Generated.{generated_lines, generated_line, generated_script, summary_text}
use Rattle.dc_rows.specs.Computed.{read_scripts, whole_texts}
use Rattle.dc_rows.specs.Texts as texts

abbrev bounds : Bounds
bounds = record { cores = 8; blocks = 16; lines = 0 }

first_lines_of_schedule : generated_lines 40 1 ≡
    texts.wake 6 0 0 ∷ texts.step 2 ∷ texts.step 4 ∷ texts.wake 5 0 0 ∷ texts.wake 5 4 0 ∷ texts.wake 2 7 0 ∷ texts.wake 2 13 0 ∷ texts.order 6
    ∷ texts.step 6 ∷ texts.wake 6 5 0 ∷ texts.wake 4 6 0 ∷ texts.step 0 ∷ texts.order 7 ∷ texts.step 6 ∷ texts.step 2 ∷ texts.step 6 ∷ texts.script
    ∷ texts.step 7 ∷ texts.wake 4 7 0 ∷ texts.step 5 ∷ texts.order 3 ∷ texts.order 6 ∷ texts.step 7 ∷ texts.script ∷ texts.step 1 ∷ texts.order 5
    ∷ texts.step 6 ∷ texts.script ∷ texts.wake 5 11 0 ∷ texts.order 4 ∷ texts.wake 1 13 0 ∷ texts.wake 4 8 0 ∷ texts.script ∷ texts.wake 5 2 0
    ∷ texts.step 1 ∷ texts.wake 3 0 0 ∷ texts.step 7 ∷ texts.step 2 ∷ texts.step 3 ∷ texts.step 3 ∷ []
unfolding generated_line
first_lines_of_schedule = refl

script_is_read : script_of bounds (texts.lines (
    "park 0 1" ∷ "attach 8 0" ∷ "park 1 2" ∷ "attach 9 1" ∷ "park 2 3" ∷ "attach 10 2" ∷ "park 3 4" ∷ "attach 11 3" ∷ "park 4 5" ∷ "attach 12 4"
    ∷ "park 5 6" ∷ "attach 13 5" ∷ "park 6 7" ∷ "attach 14 6" ∷ "park 7 0" ∷ "attach 15 7" ∷ "replace 0 edf" ∷ "replace 1 rr" ∷ "replace 2 edf"
    ∷ "replace 3 rr" ∷ "replace 4 edf" ∷ "replace 5 rr" ∷ "replace 6 edf" ∷ "replace 7 rr" ∷ []))
    ≡ Ok generated_script
unfolding read_scripts generated_script
script_is_read = refl

summary_is_spelled : summary_text 93712 26288 41 4294967295
    ≡ texts.lines ("entries 93712" ∷ "skipped 26288" ∷ "outputs 41" ∷ "sum 4294967295" ∷ [])
unfolding summary_text whole_texts
summary_is_spelled = refl
