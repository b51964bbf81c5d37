-- What the script's actions make of the objects that they touch, whatever stands elsewhere.
use Rattle.std.specs.Prelude.{◌≡◌, ℕ, ◌≤◌, List, [], ◌∷◌, Some, None, slice_get, ⊤}
use Rattle.dc_base.specs.declared.actions.Action.TheVariants as action
use Rattle.dc_base.specs.declared.actions.Actor.TheVariants as actor
use Rattle.dc_base.specs.declared.commands.ScriptLine.{ScriptLine}
use Rattle.dc_base.specs.declared.commands.ScriptLine.TheVariants as line
use Rattle.dc_base.specs.declared.entries.Entry.{Entry}
use Rattle.dc_base.specs.declared.entries.Reason.{Reason}
use Rattle.dc_base.specs.declared.entries.Reason.TheVariants as reason
use Rattle.dc_base.specs.declared.numbers.LineNo.{LineNo}
use Rattle.dc_base.specs.Changes.{Change, line_becomes, script_becomes}
use Rattle.dc_base.specs.Commands.{raise_above}
use Rattle.dc_base.specs.Lines.{Wire}
use Rattle.dc_base.specs.Raises.{first_unbegun}
use Rattle.dc_base.specs.Script.{next_raise}
use Rattle.dc_base.specs.States.{State, Script}
use Rattle.dc_bodies.specs.Does.{Does, Refuses}

-- the script goes on with the command on this line: each raise above its place was made
pub record GoesOn (t : Script) (l : ScriptLine) : Type 0 where
  pub raises : raise_above t.place (next_raise t.lines t.raises) ≡ None
  pub line : slice_get t.lines t.place ≡ Some l

-- the script's command goes on, with these changes and this entry
abbrev pub DoesCommand : State → List Change → Entry → Type 0
DoesCommand s changes e = Does s actor.Script action.Script changes e

-- the script's command does not go on, for this reason
abbrev pub RefusesCommand : State → Reason → Type 0
RefusesCommand s why = Refuses s actor.Script action.Script why

-- the command took the script from the first to the second
abbrev pub IsScripted : Script → Script → Entry → Type 0
IsScripted t t' e = (s : State) → s.script ≡ t → DoesCommand s (script_becomes t' ∷ []) e

-- and line l
abbrev pub IsRouted : ℕ → Script → Script → Wire → Wire → Entry → Type 0
IsRouted l t t' w w' e = (s : State) → s.script ≡ t → slice_get s.lines l ≡ Some w → DoesCommand s (line_becomes l w' ∷ script_becomes t' ∷ []) e

-- the script makes its next raise, which stands at place q, of line l
pub record IsNextRaise (t : Script) (q : ℕ) (l : LineNo) : Type 0 where
  pub next : next_raise t.lines t.raises ≡ Some q
  pub free : q ≤ first_unbegun t
  pub line : slice_get t.lines q ≡ Some (line.Raise l)

-- the raise took the script and line l from the first to the second
abbrev pub IsRaised : ℕ → Script → Script → Wire → Wire → Entry → Type 0
IsRaised l t t' w w' e = (s : State) → s.script ≡ t → slice_get s.lines l ≡ Some w →
    Does s actor.Script action.Raise (line_becomes l w' ∷ script_becomes t' ∷ []) e

-- the script makes no raise, for this reason
abbrev pub IsNoRaise : Script → Reason → Type 0
IsNoRaise t why = (s : State) → s.script ≡ t → Refuses s actor.Script action.Raise why

-- the script's command does not go on, for this reason
abbrev pub IsNoCommand : Script → Reason → Type 0
IsNoCommand t why = (s : State) → s.script ≡ t → RefusesCommand s why

-- the reason is not that a console has too few words
abbrev pub IsNoPoll : Reason → Type 0
IsNoPoll (reason.Few seen polls) = ⊥
IsNoPoll why = ⊤
