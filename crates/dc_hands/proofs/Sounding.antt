-- The machine stays sound, and keeps its sizes.
use Rattle.dc_base.specs.declared.entries.Entry.{Entry}
use Rattle.dc_base.specs.Objects.{HasSizes}
use Rattle.dc_base.specs.Sound.{IsSound}
use Rattle.dc_stage.specs.History.{Log}
use Rattle.dc_scene.proofs.Runs.{sizes_after}
use Rattle.dc_sound.proofs.SoundKept.{entry_sound}
use Rattle.dc_runs.proofs.Beginnings.{kept_sound}
use Rattle.dc_hands.specs.Machines.{Staged, IsOpened, state_after, IsLawfulHere}

module _ {D : Type 0} (st : Staged D) (opened : IsOpened st) (log : Log Entry) where
  pub sized_after : HasSizes st.scene.settings (state_after st log)
  sized_after = sizes_after st.scene.settings st.scene.start opened.sizes log

  pub sound_after : IsLawfulHere st log → IsSound (state_after st log)
  sound_after lawful = kept_sound entry_sound st.scene.settings st.scene.start log opened.sound lawful
