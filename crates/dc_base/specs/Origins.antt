-- What a run starts from.
use Rattle.std.specs.Prelude.{List}
use Rattle.dc_base.specs.declared.images.Image.{Image}
use Rattle.dc_base.specs.declared.commands.ScriptLine.{ScriptLine}
use Rattle.dc_base.specs.States.{State, core_start}
use Rattle.dc_base.specs.Runs.{Terms, terms_of, Seen, seen_start}

pub record Origin : Type 0 where
  pub terms : Terms
  pub lines : List ScriptLine
  -- what is told before the first entry, with the blocks
  pub seen : Seen
  -- the state of the machine with cores
  pub state : State

-- the start of an image and a script
abbrev pub image_origin : Image → List ScriptLine → Origin
image_origin image script = record { terms = terms_of image; lines = script; seen = seen_start image script; state = core_start image script }
