-- How raises and commands follow one another, in sentences over whole journals.
use Rattle.std.specs.Prelude.{◌≡◌, ℕ, ◌<◌, List, ◌∷◌, ◌++◌, Some, IsTrue, slice_get}
use Rattle.dc_base.specs.declared.images.Image.{Image}
use Rattle.dc_base.specs.declared.numbers.LineNo.{LineNo}
use Rattle.dc_base.specs.declared.interrupts.Raised.{Raised}
use Rattle.dc_base.specs.declared.commands.ScriptLine.{ScriptLine}
use Rattle.dc_base.specs.declared.commands.ScriptLine.TheVariants as line
use Rattle.dc_base.specs.declared.entries.Entry.{Entry}
use Rattle.dc_base.specs.declared.entries.What.TheVariants as what
use Rattle.dc_base.specs.Words.{lists}
use Rattle.dc_base.specs.Outcomes.{by_script}
use Rattle.dc_base.specs.Script.{is_command}
use Rattle.dc_journal_laws.specs.Entries.{command_line, is_begun, raised}

-- a raise shows a raise line of the script, with its line
abbrev pub RaisedAsSaid : Image → List ScriptLine → List Entry → Type 0
RaisedAsSaid image script journal =
    (before after : List Entry) (q : ℕ) (l : LineNo) (r : Raised) → journal ≡ before ++ by_script (what.Raise q l r) ∷ after →
    slice_get script q ≡ Some (line.Raise l)

-- raises come by line number
abbrev pub RaisedByLine : Image → List ScriptLine → List Entry → Type 0
RaisedByLine image script journal =
    (before between after : List Entry) (p q : ℕ) (l m : LineNo) (r t : Raised) →
    journal ≡ before ++ by_script (what.Raise p l r) ∷ (between ++ by_script (what.Raise q m t) ∷ after) → p < q

-- no raise is left out: one is made when every raise above it was made
abbrev pub NoRaiseLeftOut : Image → List ScriptLine → List Entry → Type 0
NoRaiseLeftOut image script journal =
    (before after : List Entry) (p q : ℕ) (l m : LineNo) (r : Raised) → journal ≡ before ++ by_script (what.Raise q l r) ∷ after →
    slice_get script p ≡ Some (line.Raise m) → p < q → IsTrue (lists (raised before) p)

-- a raise comes after the first entry of every command above it
abbrev pub RaisedAfterCommands : Image → List ScriptLine → List Entry → Type 0
RaisedAfterCommands image script journal =
    (before after : List Entry) (p q : ℕ) (l : LineNo) (m : ScriptLine) (r : Raised) → journal ≡ before ++ by_script (what.Raise q l r) ∷ after →
    slice_get script p ≡ Some m → IsTrue (is_command m) → p < q → IsTrue (is_begun p before)

-- an entry of a command, and so its first one, comes after every raise above it
abbrev pub AnsweredAfterRaises : Image → List ScriptLine → List Entry → Type 0
AnsweredAfterRaises image script journal =
    (before after : List Entry) (e : Entry) (p q : ℕ) (l : LineNo) → journal ≡ before ++ e ∷ after → command_line e.what ≡ Some q →
    slice_get script p ≡ Some (line.Raise l) → p < q → IsTrue (lists (raised before) p)
