-- What a turn of a core makes of its hand, while it holds more objects beside it. A pass is k before and l after.
use Rattle.std.specs.Prelude.{◌≡◌, List}
use Rattle.dc_base.specs.declared.actions.Action.{Action}
use Rattle.dc_base.specs.declared.actions.Actor.TheVariants as actor
use Rattle.dc_base.specs.Changes.{Name}
use Rattle.dc_hands.specs.declared.answers.Turned.{Turned}
use Rattle.dc_hands.specs.declared.hands.CoreHand.{CoreHand}
use Rattle.dc_hands.specs.Answers.{AnswersTurn, IsNoEntry}
use Rattle.dc_core_turns.specs.Beside.{HoldsBeside}
use Rattle.dc_hands.specs.Holding.{GoesOn}
use Rattle.dc_hands.specs.Machines.{Staged, Passing}

-- The core's action comes to this answer. The hand is then again as in the machine, and as it was where there is no entry.
pub record TakesTurn {D : Type 0} (st : Staged D) (k l : Passing D) (h g : CoreHand D) (ns : List Name) (a : Action) (r : Turned) : Type 0 where
  pub hand : HoldsBeside st l g ns
  pub number : g.number ≡ h.number
  pub goes : GoesOn k l
  pub turn : AnswersTurn st k l 0 (actor.Core h.number) a r
  pub same : IsNoEntry r → g ≡ h
