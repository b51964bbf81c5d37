-- A stage of a machine, in the machine's words.
use Rattle.std.specs.Prelude.{◌≡◌, ℕ, length}
use Rattle.dc_base.specs.declared.entries.Entry.{Entry}
use Rattle.dc_base.specs.States.{State}
use Rattle.dc_base.specs.Changes.{Name}
use Rattle.dc_base.specs.Histories.{IsLawfulHistory, after}
use Rattle.dc_base.specs.Objects.{objects, object_number, HasSizes}
use Rattle.dc_base.specs.Sound.{IsSound}
use Rattle.dc_stage.specs.History.{Log}
use Rattle.dc_stage.specs.Passes.{Known, Setting}
use Rattle.dc_scene.specs.declared.machines.Machine.{Machine}

-- what contracts see of a stage of a machine, and of a pass of it
abbrev pub Staged : Type 0 → Type 0
Staged D = Setting (Machine D)

abbrev pub Passing : Type 0 → Type 0
Passing D = Known (Machine D) Entry

-- the state of the machine after a history
abbrev pub state_after : {D : Type 0} → Staged D → Log Entry → State
state_after st log = after st.scene.start log

-- the history is lawful from the machine's start
abbrev pub IsLawfulHere : {D : Type 0} → Staged D → Log Entry → Type 0
IsLawfulHere st log = IsLawfulHistory st.scene.settings st.scene.start log

-- the number of an object
abbrev pub number_of : {D : Type 0} → Staged D → Name → ℕ
number_of st n = object_number st.scene.settings n

-- the stage has all objects of a machine that is sound at its start
pub record IsOpened {D : Type 0} (st : Staged D) : Type 0 where
  pub sizes : HasSizes st.scene.settings st.scene.start
  pub sound : IsSound st.scene.start
  pub settled : st.scene.start.script.settings ≡ st.scene.settings
  pub objects : st.objects ≡ length (objects st.scene.start)
