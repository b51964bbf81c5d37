-- How the script's turns hold their objects, and what they come to. A pass is k before and l after, and a hand is h before and i after.
use Rattle.std.specs.Prelude.{◌≡◌, ℕ, ◌<◌, ◌≤◌, ◌+◌, ◌-◌, min, List, [], ◌∷◌, ◌++◌, Some, slice_get, length, ⊤}
use Rattle.dc_base.specs.declared.actions.Action.{Action}
use Rattle.dc_base.specs.declared.actions.Action.TheVariants as action
use Rattle.dc_base.specs.declared.actions.Actor.TheVariants as actor
use Rattle.dc_base.specs.declared.commands.ScriptLine.{ScriptLine}
use Rattle.dc_base.specs.declared.commands.ScriptLine.TheVariants as line
use Rattle.dc_base.specs.declared.entries.Reason.TheVariants as reason
use Rattle.dc_base.specs.declared.entries.What.{What}
use Rattle.dc_base.specs.declared.entries.What.TheVariants as what
use Rattle.dc_base.specs.declared.numbers.BlockNo.{BlockNo}
use Rattle.dc_base.specs.Changes.{Name, the_script, script}
use Rattle.dc_base.specs.CoreRuns.{polls_after, polls_at}
use Rattle.dc_base.specs.Cores.{core_step}
use Rattle.dc_base.specs.States.{Script}
use Rattle.dc_base.specs.Turns.{not_enabled}
use Rattle.dc_bodies.specs.Scripted.{GoesOn as StandsAt, IsNoPoll}
use Rattle.dc_stage.specs.History.{own}
use Rattle.dc_hands.specs.declared.answers.Turned.{Turned}
use Rattle.dc_hands.specs.declared.answers.Turned.TheVariants as turned
use Rattle.dc_hands.specs.declared.hands.ScriptHand.{ScriptHand}
use Rattle.dc_hands.specs.Answers.{AnswersTurn, IsNoEntry, Made}
use Rattle.dc_hands.specs.Hands.{HoldsJust, HoldsScript}
use Rattle.dc_hands.specs.Holding.{GoesOn, Has}
use Rattle.dc_hands.specs.Machines.{Staged, Passing, state_after, IsLawfulHere}

-- the polls after the script's action came to this
abbrev pub polls_then : Action → ℕ → Turned → ℕ
polls_then a polls (turned.Did e t) = polls_after a polls
polls_then a polls (turned.NotEnabled why) = polls_at why polls
polls_then a polls r = polls

-- the entry does not end an await whose console has too few words
abbrev pub IsNoUnmet : What → Type 0
IsNoUnmet (what.Unmet q b seen) = ⊥
IsNoUnmet w = ⊤

-- neither the answer nor its entry is that a console has too few words
abbrev pub IsQuiet : Turned → Type 0
IsQuiet (turned.Did e t) = IsNoUnmet e.what
IsQuiet (turned.NotEnabled why) = IsNoPoll why
IsQuiet r = ⊤

-- the line awaits no words of a console
abbrev pub IsNoAwait : ScriptLine → Type 0
IsNoAwait (line.Await b words limit) = ⊥
IsNoAwait l = ⊤

module _ {D : Type 0} (st : Staged D) where
  -- The pass is the script's, and holds the script, which stands so after all that the pass has seen, and these objects and no others.
  pub record HoldsBeside (k : Passing D) (t : Script) (ns : List Name) : Type 0 where
    pub actor : k.actor ≡ st.scene.settings.cores
    pub lawful : IsLawfulHere st k.seen
    pub stands : Has st k the_script (script t)
    pub holds : HoldsJust st k (ns ++ the_script ∷ [])

  -- the script's action answers this, which is about no poll, and then the pass holds the script alone
  pub record Acts (k l : Passing D) (h i : ScriptHand) (a : Action) (r : Turned) : Type 0 where
    pub hand : HoldsScript st l i
    pub on : GoesOn k l
    pub turn : AnswersTurn st k l h.polls actor.Script a r
    pub same : IsNoEntry r → i.script ≡ h.script
    pub polls : i.polls ≡ h.polls
    pub quiet : IsQuiet r

  -- the same, and the polls are counted
  pub record Counts (k l : Passing D) (h i : ScriptHand) (a : Action) (r : Turned) : Type 0 where
    pub hand : HoldsScript st l i
    pub on : GoesOn k l
    pub turn : AnswersTurn st k l h.polls actor.Script a r
    pub same : IsNoEntry r → i.script ≡ h.script
    pub polls : i.polls ≡ polls_then a h.polls r

  -- The await at which the script stands finds too few words in its console, in the state after all that the pass has seen. As many polls as allowed were made
  -- there, but for the one that ends the await, and each of them finds just this.
  pub record FindsFew (k l : Passing D) (h i : ScriptHand) (most seen polls : ℕ) : Type 0 where
    pub block : BlockNo
    pub words : ℕ
    pub limit : ℕ
    pub stands : StandsAt h.script (line.Await block words limit)
    pub others : own k.actor l.seen ≡ own k.actor k.seen
    pub refused : l.refused ≡ k.refused
    pub console : (ws : List ℕ) × (slice_get (state_after st l.seen).consoles block.0 ≡ Some ws) × (seen ≡ length ws) × (seen < words)
    pub made : i.polls ≡ h.polls + min most (limit - 1 - h.polls)
    pub told : polls ≡ i.polls
    pub each : (j : ℕ) → h.polls ≤ j → j < i.polls → core_step (state_after st l.seen) j actor.Script action.Script ≡ not_enabled (reason.Few seen (j + 1))

  -- it finds too few words, or answers as one action of the script, and never ends an await for want of words
  abbrev pub AnswersPolls : Passing D → Passing D → ScriptHand → ScriptHand → ℕ → Turned → Type 0
  AnswersPolls k l h i most (turned.NotEnabled (reason.Few seen polls)) = FindsFew k l h i most seen polls
  AnswersPolls k l h i most (turned.Did e t) = Made st k l h.polls actor.Script action.Script e t.0 × IsNoUnmet e.what
  AnswersPolls k l h i most r = AnswersTurn st k l h.polls actor.Script action.Script r

  -- the same, where the console of an await may be polled so many times
  pub record Polls (k l : Passing D) (h i : ScriptHand) (most : ℕ) (r : Turned) : Type 0 where
    pub hand : HoldsScript st l i
    pub on : GoesOn k l
    pub turn : AnswersPolls k l h i most r
    pub same : IsNoEntry r → i.script ≡ h.script
    pub polls : i.polls ≡ polls_then action.Script h.polls r
