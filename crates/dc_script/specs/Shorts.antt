-- What an action in four bytes stands for.
use Rattle.std.specs.Prelude.{List, ◌++◌, map}
use Rattle.dc_base.specs.declared.actions.Actor.{Actor}
use Rattle.dc_base.specs.declared.actions.Actor.TheVariants as actor
use Rattle.dc_base.specs.declared.actions.Action.{Action}
use Rattle.dc_base.specs.declared.actions.Action.TheVariants as action
use Rattle.dc_script.specs.declared.shorts.Short.{Short}
use Rattle.dc_script.specs.declared.shorts.Short.TheVariants as short

abbrev pub whole : Short → Actor × Action
whole (short.Step c) = (actor.Core (record { 0 = c }), action.Step)
whole (short.Order c) = (actor.Core (record { 0 = c }), action.Order)
whole (short.Intake c l) = (actor.Core (record { 0 = c }), action.Intake (record { 0 = l }))
whole (short.Wake c b d) = (actor.Core (record { 0 = c }), action.Wake (record { 0 = b }) (record { 0 = d }))
whole short.Script = (actor.Script, action.Script)
whole short.Raise = (actor.Script, action.Raise)

-- the short lines, and the others behind them
abbrev pub lines_in : List Short → List (Actor × Action) → List (Actor × Action)
lines_in shorts others = map whole shorts ++ others
