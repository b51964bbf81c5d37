-- What a turn of an actor answers. A pass is k before it and l after it.
use Rattle.std.specs.Prelude.{◌≡◌, ◌≢◌, ℕ, List, [], ◌∷◌, ◌++◌, length, ⊤}
use mathlib.Core.List.{IsPrefix}
use Rattle.dc_base.specs.declared.actions.Action.{Action}
use Rattle.dc_base.specs.declared.actions.Actor.{Actor}
use Rattle.dc_base.specs.declared.entries.Entry.{Entry}
use Rattle.dc_base.specs.Changes.{Name, Change}
use Rattle.dc_base.specs.Cores.{core_step, turn_of}
use Rattle.dc_base.specs.Histories.{Listed}
use Rattle.dc_base.specs.Turns.{Outcome, did, not_enabled, spent, looks}
use Rattle.dc_stage.specs.History.{Log, own}
use Rattle.dc_hands.specs.declared.answers.Turned.{Turned}
use Rattle.dc_hands.specs.declared.answers.Turned.TheVariants as turned
use Rattle.dc_hands.specs.declared.takes.Busy.{Busy}
use Rattle.dc_hands.specs.Machines.{Staged, Passing, state_after, number_of, IsLawfulHere}

module _ {D : Type 0} (st : Staged D) where
  -- The actor's action made this entry in the state after all entries before it, and the ticket is its place.
  pub record Made (k l : Passing D) (polls : ℕ) (who : Actor) (a : Action) (e : Entry) (ticket : ℕ) : Type 0 where
    pub before : Log Entry
    pub sees : IsPrefix k.seen before
    pub others : own k.actor before ≡ own k.actor k.seen
    pub seen : l.seen ≡ before ++ (k.actor, e) ∷ []
    pub place : ticket ≡ length before
    pub lawful : IsLawfulHere st l.seen
    pub refused : l.refused ≡ k.refused
    pub changes : List Change
    pub turn : core_step (state_after st before) polls who a ≡ did changes e

  -- the actor's action comes to this, and makes no entry, in the state after all that the pass has seen
  pub record Fails (k l : Passing D) (polls : ℕ) (who : Actor) (a : Action) (o : Outcome) : Type 0 where
    pub others : own k.actor l.seen ≡ own k.actor k.seen
    pub refused : l.refused ≡ k.refused
    pub turn : core_step (state_after st l.seen) polls who a ≡ o

  -- an object at which the action looks, in the state after all that the pass has seen, was with another actor
  pub record WasRefused (k l : Passing D) (polls : ℕ) (who : Actor) (a : Action) (b : Busy) : Type 0 where
    pub others : own k.actor l.seen ≡ own k.actor k.seen
    pub refused : l.refused ≡ (b.object, b.by) ∷ k.refused
    pub other : b.by ≢ k.actor
    pub looked : (n : Name) × (b.object ≡ number_of st n) × Listed n (looks (state_after st l.seen) (turn_of (λ t. polls) who a))

  abbrev pub AnswersTurn : Passing D → Passing D → ℕ → Actor → Action → Turned → Type 0
  AnswersTurn k l polls who a (turned.Did e t) = Made k l polls who a e t.0
  AnswersTurn k l polls who a (turned.NotEnabled why) = Fails k l polls who a (not_enabled why)
  AnswersTurn k l polls who a turned.Spent = Fails k l polls who a spent
  AnswersTurn k l polls who a (turned.Busy b) = WasRefused k l polls who a b

-- the turn made no entry
abbrev pub IsNoEntry : Turned → Type 0
IsNoEntry (turned.Did e t) = ⊥
IsNoEntry r = ⊤
