-- Whole runs of a machine with a thread for each core.
use Rattle.std.specs.Prelude.{◌≡◌, map}
use Rattle.dc_base.specs.declared.entries.Entry.{Entry}
use Rattle.dc_base.specs.Histories.{after, entries_in}
use Rattle.dc_base.specs.Objects.{objects}
use Rattle.dc_base.specs.PlayText.{AreCoresAtRest, IsAnswered}
use Rattle.dc_crew.specs.declared.ends.Ended.{Ended}
use Rattle.dc_crew.specs.Machines.{Staged, IsLawfulHere}
use Rattle.dc_runs.specs.Awaits.{AreGivenUpAtRest}
use Rattle.dc_scene.specs.Objects.{object_seen}
use Rattle.dc_stage.specs.History.{Log}

-- The journal and the objects are those of a lawful history from the machine's start, in which the script was answered. No core can act after it, and none
-- could before an await was given up.
pub record HasRun (st : Staged) (r : Ended) : Type 0 where
  pub history : Log Entry
  pub lawful : IsLawfulHere st history
  pub entries : r.journal.items ≡ entries_in history
  pub objects_are : map object_seen r.objects.items ≡ objects (after st.scene.start history)
  pub answered : IsAnswered (after st.scene.start history)
  pub at_rest : AreCoresAtRest (after st.scene.start history)
  pub given_up : AreGivenUpAtRest st.scene.start history
