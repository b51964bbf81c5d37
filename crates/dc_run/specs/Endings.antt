-- What a run leaves when it ends.
use Rattle.std.specs.Prelude.{◌≡◌, List, IsTrue, map}
use Rattle.std.specs.List.{list_all}
use Rattle.dc_base.specs.declared.commands.ScriptLine.{ScriptLine}
use Rattle.dc_base.specs.declared.images.Image.{Image}
use Rattle.dc_base.specs.EntryRanges.{has_line}
use Rattle.dc_base.specs.Objects.{objects}
use Rattle.dc_base.specs.PlayText.{IsRunJournal}
use Rattle.dc_base.specs.Sound.{IsSound}
use Rattle.dc_base.specs.States.{State}
use Rattle.dc_crew.specs.declared.ends.Ended.{Ended}
use Rattle.dc_numbered.specs.Rooms.{Room, HasRoom}
use Rattle.dc_scene.specs.Objects.{object_seen}
use Rattle.dc_run.specs.Texts.{IsShort, run_text, text_of}

-- Each entry of the journal has a line, and its ticket at most ten digits. The objects are those of a sound state, and there is room for those of each kind.
-- The journal is one that a run of this image and script may have, and the text of journal and state is that of the run.
pub record HasText (image : Image) (lines : List ScriptLine) (kinds : Room) (r : Ended) : Type 0 where
  pub state : State
  pub lined : IsTrue (list_all has_line r.journal.items)
  pub short : IsShort r.journal.items
  pub objects_are : map object_seen r.objects.items ≡ objects state
  pub room : HasRoom state kinds
  pub sound : IsSound state
  pub run : IsRunJournal image lines r.journal.items
  pub text : text_of r.journal.items state ≡ run_text image lines r.journal.items
