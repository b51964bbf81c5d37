-- The actions of a valid schedule are of the machine at each state of a run.
use Rattle.std.proofs.Common.{◌<◌, ◌∙◌, List, sym, subst}
use Rattle.dc_base.specs.declared.actions.Actor.{Actor}
use Rattle.dc_base.specs.declared.actions.Actor.TheVariants as actor
use Rattle.dc_base.specs.declared.actions.Action.{Action}
use Rattle.dc_base.specs.declared.actions.Action.TheVariants as action
use Rattle.dc_base.specs.Changes.{Change, apply}
use Rattle.dc_base.specs.Sound.{IsSound}
use Rattle.dc_base.specs.States.{State, Settings}
use Rattle.dc_base.specs.Valid.{IsActionOf}
use Rattle.dc_sound.proofs.Lengths.{same_lengths}
use Rattle.dc_play.specs.Played.{IsSized}

-- no change makes or removes an object
pub sized_after : (t : Settings) (s : State) (changes : List Change) → IsSized t s → IsSound s → IsSound (apply s changes) → IsSized t (apply s changes)
sized_after t s changes z p q =
    let n = same_lengths changes s in
    record {
      cores = sym q.settled.cores ∙ n.cores ∙ p.settled.cores ∙ z.cores;
      blocks = sym q.settled.blocks ∙ n.blocks ∙ p.settled.blocks ∙ z.blocks;
      lines = sym q.settled.lines ∙ n.lines ∙ p.settled.lines ∙ z.lines;
    }

-- an action of the machine's settings is one of each state of its run
pub action_of_state : (t : Settings) (s : State) → IsSized t s → (who : Actor) (a : Action) → IsActionOf t who a → IsActionOf s.script.settings who a
action_of_state t s z (actor.Core c) action.Script h = absurd h
action_of_state t s z (actor.Core c) action.Raise h = absurd h
action_of_state t s z (actor.Core c) action.Step h = (subst (λ n. c.0 < n) (sym z.cores) h.0, tt)
action_of_state t s z (actor.Core c) action.Order h = (subst (λ n. c.0 < n) (sym z.cores) h.0, tt)
action_of_state t s z (actor.Core c) (action.Intake l) h = (subst (λ n. c.0 < n) (sym z.cores) h.0, subst (λ n. l.0 < n) (sym z.lines) h.1)
action_of_state t s z (actor.Core c) (action.Wake b d) h = (subst (λ n. c.0 < n) (sym z.cores) h.0, (subst (λ n. b.0 < n) (sym z.blocks) h.1.0, h.1.1))
action_of_state t s z actor.Script action.Script h = tt
action_of_state t s z actor.Script action.Raise h = tt
action_of_state t s z actor.Script action.Step h = absurd h
action_of_state t s z actor.Script action.Order h = absurd h
action_of_state t s z actor.Script (action.Intake l) h = absurd h
action_of_state t s z actor.Script (action.Wake b d) h = absurd h
