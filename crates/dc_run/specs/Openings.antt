-- What a run has before its first event.
use Rattle.std.specs.Prelude.{◌≡◌, ◌≤◌, ◌<◌, ℕ, ◌+◌, ◌*◌, List, [], length, vec_capacity}
use Rattle.dc_base.specs.declared.commands.ScriptLine.{ScriptLine}
use Rattle.dc_base.specs.declared.images.Image.{Image}
use Rattle.dc_base.specs.Limits.{longest_script}
use Rattle.dc_base.specs.States.{Settings, core_start, settings_of}
use Rattle.dc_crew.specs.Crews.{IsCrew, IsNew}
use Rattle.dc_crew.specs.Machines.{Staged}
use Rattle.dc_hands.specs.Machines.{IsOpened}
use Rattle.dc_logs.specs.Rests.{AllOf}
use Rattle.dc_numbered.specs.Rooms.{HasRoom}
use Rattle.dc_run.specs.declared.opening.Opening.{Opening}

-- the room of a core's log: its slices, idle steps and wakes, two entries for each line of the longest script, and one more
abbrev pub room_of_core : Settings → ℕ
room_of_core t = t.slices + 2 * longest_script + 1

-- the room of the script's log: three entries for each line of the longest script, and one more
abbrev pub room_of_script : ℕ
room_of_script = 3 * longest_script + 1

-- it is the stage of the machine of this image and script, with an actor for each core and one for the script
pub record IsStageOf (image : Image) (lines : List ScriptLine) (st : Staged) : Type 0 where
  pub settings : st.scene.settings ≡ settings_of image
  pub start : st.scene.start ≡ core_start image lines
  pub actors : st.actors ≡ st.scene.settings.cores + 1

-- the stage is open, each actor has its new seat, and there is room for a thread of each core, the logs of all actors, and the objects of each kind
pub record IsReady (image : Image) (lines : List ScriptLine) (o : Opening) : Type 0 where
  pub of : IsStageOf image lines o.stage
  pub opened : IsOpened o.stage
  pub crew : IsCrew o.stage o.crew.seats.items o.crew.script
  pub cores : AllOf (IsNew (room_of_core o.stage.scene.settings)) o.crew.seats.items
  pub script : IsNew room_of_script o.crew.script
  pub threads : (o.room.items ≡ []) × (length o.crew.seats.items ≤ vec_capacity o.room)
  pub logs : (o.logs.items ≡ []) × (length o.crew.seats.items < vec_capacity o.logs)
  pub kinds : HasRoom (core_start image lines) o.kinds
