-- How the entries of commands answer the script, in sentences over whole journals.
use Rattle.std.specs.Prelude.{◌≡◌, ℕ, ◌≤◌, ◌<◌, List, ◌∷◌, ◌++◌, Bool, true, false, not, Some, IsTrue, slice_get}
use Rattle.dc_base.specs.declared.images.Image.{Image}
use Rattle.dc_base.specs.declared.actions.Actor.{Actor}
use Rattle.dc_base.specs.declared.actions.Actor.TheVariants as actor
use Rattle.dc_base.specs.declared.numbers.BlockNo.{BlockNo}
use Rattle.dc_base.specs.declared.numbers.CoreNo.{CoreNo}
use Rattle.dc_base.specs.declared.numbers.LineNo.{LineNo}
use Rattle.dc_base.specs.declared.commands.ScriptLine.{ScriptLine}
use Rattle.dc_base.specs.declared.commands.ScriptLine.TheVariants as line
use Rattle.dc_base.specs.declared.entries.Entry.{Entry}
use Rattle.dc_base.specs.declared.entries.What.{What}
use Rattle.dc_base.specs.declared.entries.What.TheVariants as what
use Rattle.dc_base.specs.Outcomes.{by_script}
use Rattle.dc_base.specs.Script.{is_command}
use Rattle.dc_base.specs.Answers.{is_made_by_core}
use Rattle.dc_journal_laws.specs.Entries.{command_line, finishes, is_finished}

-- cores make slices, idle entries, wakes, intakes and order entries, and the script all others
abbrev pub may_make : Actor → What → Bool
may_make (actor.Core c) w = is_made_by_core w
may_make actor.Script w = not (is_made_by_core w)

-- each entry was made by one that may make it
abbrev pub MadeByWhoMay : Image → List ScriptLine → List Entry → Type 0
MadeByWhoMay image script journal = (before after : List Entry) (e : Entry) → journal ≡ before ++ e ∷ after → IsTrue (may_make e.actor e.what)

-- commands are answered by line number: the lines never fall, and rise after a command's last entry
abbrev pub AnsweredByLine : Image → List ScriptLine → List Entry → Type 0
AnsweredByLine image script journal =
    (before between after : List Entry) (d e : Entry) (p q : ℕ) → journal ≡ before ++ d ∷ (between ++ e ∷ after) → command_line d.what ≡ Some p →
    command_line e.what ≡ Some q →
    (p ≤ q) × (IsTrue (finishes p d) → p < q)

-- no command is left out: one is answered when every command above it is finished
abbrev pub NoneLeftOut : Image → List ScriptLine → List Entry → Type 0
NoneLeftOut image script journal =
    (before after : List Entry) (e : Entry) (p q : ℕ) (l : ScriptLine) → journal ≡ before ++ e ∷ after → command_line e.what ≡ Some q →
    slice_get script p ≡ Some l → IsTrue (is_command l) → p < q → IsTrue (is_finished p before)

-- a post or done
abbrev pub goes_on : What → Bool
goes_on (what.Post q c o) = true
goes_on (what.Done q) = true
goes_on w = false

-- an entry of a command that has made one before is a post or done
abbrev pub AnsweredOnce : Image → List ScriptLine → List Entry → Type 0
AnsweredOnce image script journal =
    (before between after : List Entry) (d e : Entry) (q : ℕ) → journal ≡ before ++ d ∷ (between ++ e ∷ after) → command_line d.what ≡ Some q →
    command_line e.what ≡ Some q → IsTrue (goes_on e.what)

-- a route entry shows the line and the core of its line of the script
abbrev pub RoutedAsSaid : Image → List ScriptLine → List Entry → Type 0
RoutedAsSaid image script journal =
    (before after : List Entry) (q : ℕ) (l : LineNo) (c : CoreNo) → journal ≡ before ++ by_script (what.Route q l c) ∷ after →
    slice_get script q ≡ Some (line.Route l c)

-- line q of the script awaits this many words of the block
pub record Awaits (script : List ScriptLine) (q : ℕ) (b : BlockNo) (words : ℕ) : Type 0 where
  pub limit : ℕ
  pub in_script : slice_get script q ≡ Some (line.Await b words limit)

-- an await that is met saw at least its words
abbrev pub MetWithEnough : Image → List ScriptLine → List Entry → Type 0
MetWithEnough image script journal =
    (before after : List Entry) (q : ℕ) (b : BlockNo) (seen : ℕ) → journal ≡ before ++ by_script (what.Met q b seen) ∷ after →
    (words : ℕ) × Awaits script q b words × (words ≤ seen)

-- an await that is not met saw fewer
abbrev pub UnmetWithFewer : Image → List ScriptLine → List Entry → Type 0
UnmetWithFewer image script journal =
    (before after : List Entry) (q : ℕ) (b : BlockNo) (seen : ℕ) → journal ≡ before ++ by_script (what.Unmet q b seen) ∷ after →
    (words : ℕ) × Awaits script q b words × (seen < words)
