-- The stage of a machine at its start.
use Rattle.std.proofs.Common.{◌≡◌, List, length, sym, ap, ◌∙◌, subst}
use Rattle.dc_base.specs.declared.commands.ScriptLine.{ScriptLine}
use Rattle.dc_base.specs.declared.images.Image.{Image}
use Rattle.dc_base.specs.Objects.{objects, HasSizes}
use Rattle.dc_base.specs.Sound.{IsSound}
use Rattle.dc_base.specs.States.{State, Settings, core_start, settings_of}
use Rattle.dc_crew.specs.Machines.{Staged}
use Rattle.dc_hands.specs.Machines.{IsOpened}
use Rattle.dc_play.proofs.Starting.{start_settings}
use Rattle.dc_run.specs.Openings.{IsStageOf}

-- it is open where the start is sound and has its sizes, and all objects are there
pub is_opened : (image : Image) (lines : List ScriptLine) (st : Staged) → IsStageOf image lines st → HasSizes (settings_of image) (core_start image lines) →
    IsSound (core_start image lines) → st.objects ≡ length (objects (core_start image lines)) → IsOpened st
is_opened image lines st of sizes sound count = record {
  sizes =
      subst (λ (s : State). HasSizes st.scene.settings s) (sym of.start)
      (subst (λ (t : Settings). HasSizes t (core_start image lines)) (sym of.settings) sizes);
  sound = subst IsSound (sym of.start) sound;
  settled = ap (λ (s : State). s.script.settings) of.start ∙ start_settings image lines ∙ sym of.settings;
  objects = count ∙ ap (λ (s : State). length (objects s)) (sym of.start);
}
