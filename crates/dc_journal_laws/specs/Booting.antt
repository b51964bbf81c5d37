-- Which cores are on, and the refusals and orders of boot commands, in sentences over whole journals.
use Rattle.std.specs.Prelude.{◌≡◌, ℕ, List, [], ◌∷◌, ◌++◌, Option, Some, None, IsTrue, slice_get, is_some}
use Rattle.dc_base.specs.declared.images.Image.{Image}
use Rattle.dc_base.specs.declared.numbers.CoreNo.{CoreNo}
use Rattle.dc_base.specs.declared.commands.Command.{Command}
use Rattle.dc_base.specs.declared.commands.Order.{Order}
use Rattle.dc_base.specs.declared.commands.Refusal.{Refusal}
use Rattle.dc_base.specs.declared.commands.ScriptLine.{ScriptLine}
use Rattle.dc_base.specs.declared.commands.ScriptLine.TheVariants as line
use Rattle.dc_base.specs.declared.entries.Entry.{Entry}
use Rattle.dc_base.specs.declared.entries.What.{What}
use Rattle.dc_base.specs.declared.entries.What.TheVariants as what
use Rattle.dc_base.specs.Outcomes.{by_core, by_script}
use Rattle.dc_base.specs.Answers.{needs_on}
use Rattle.dc_base.specs.Boot.{Registry, booted_at, refusal, orders}
use Rattle.dc_base.specs.Runs.{boot_state}
use Rattle.dc_journal_laws.specs.Entries.{before_command, posted_by}

-- slices, idle entries, wakes and intakes come from cores that are on
abbrev pub MadeByCoresOn : Image → List ScriptLine → List Entry → Type 0
MadeByCoresOn image script journal =
    (before after : List Entry) (c : ℕ) (w : What) → journal ≡ before ++ by_core c w ∷ after → IsTrue (needs_on w) →
    IsTrue (is_some (booted_at (boot_state image before) c))

-- line q of the script is a boot command that this boot state refuses so, or not at all
pub record IsAnsweredBy (script : List ScriptLine) (q : ℕ) (registry : Registry) (answer : Option Refusal) : Type 0 where
  pub command : Command
  pub in_script : slice_get script q ≡ Some (line.Boot command)
  pub answered : refusal registry command ≡ answer

-- a refused entry shows the first refusal that applies to the command in its line
abbrev pub RefusedByTable : Image → List ScriptLine → List Entry → Type 0
RefusedByTable image script journal =
    (before after : List Entry) (q : ℕ) (r : Refusal) → journal ≡ before ++ by_script (what.Refused q r) ∷ after →
    IsAnsweredBy script q (boot_state image before) (Some r)

-- these and more are all orders of the command, which is not refused
pub record AreOrders (script : List ScriptLine) (q : ℕ) (registry : Registry) (these more : List (ℕ × Order)) : Type 0 where
  pub answer : IsAnsweredBy script q registry None
  pub whole : these ++ more ≡ orders registry answer.command

-- a post is the next order of a command that is not refused in the boot state at its first entry
abbrev pub PostedInOrder : Image → List ScriptLine → List Entry → Type 0
PostedInOrder image script journal =
    (before after : List Entry) (q : ℕ) (c : CoreNo) (o : Order) → journal ≡ before ++ by_script (what.Post q c o) ∷ after →
    (more : List (ℕ × Order)) × AreOrders script q (boot_state image (before_command q before)) (posted_by q before) ((c.0, o) ∷ more)

-- a command is done where all its orders are posted
abbrev pub DoneInFull : Image → List ScriptLine → List Entry → Type 0
DoneInFull image script journal =
    (before after : List Entry) (q : ℕ) → journal ≡ before ++ by_script (what.Done q) ∷ after →
    AreOrders script q (boot_state image (before_command q before)) (posted_by q before) []
