-- An entry of a core, from what its action comes to.
use Rattle.std.proofs.Common.{◌≡◌, ℕ, List, refl, ap, ◌∙◌, subst}
use Rattle.dc_base.specs.declared.actions.Action.{Action}
use Rattle.dc_base.specs.declared.actions.Actor.{Actor}
use Rattle.dc_base.specs.declared.actions.Actor.TheVariants as actor
use Rattle.dc_base.specs.declared.entries.Entry.{Entry}
use Rattle.dc_base.specs.declared.numbers.CoreNo.{CoreNo}
use Rattle.dc_base.specs.Actions.{action_of, polls_of}
use Rattle.dc_base.specs.Changes.{Change, apply}
use Rattle.dc_base.specs.Cores.{core_step, turn_of}
use Rattle.dc_base.specs.Histories.{actor_number, changes_in, next, touched, turn_of_entry, IsLawful}
use Rattle.dc_base.specs.States.{State, Script, Settings}
use Rattle.dc_base.specs.Turns.{did, looks, outcome}
use Rattle.dc_refine.proofs.EntryActions.{Mine, IsMine, core_shows}

-- the turn of a core is the same after any polls
same_turn : (p q : Script → ℕ) (c : CoreNo) (a : Action) → turn_of p (actor.Core c) a ≡ turn_of q (actor.Core c) a
unfolding turn_of
same_turn p q c a = refl

module _ (s : State) (c : CoreNo) (a : Action) (changes : List Change) (e : Entry) (made : core_step s 0 (actor.Core c) a ≡ did changes e) where
  shows : IsMine c.0 a changes e
  shows = subst (Mine c.0 a) made (core_shows s 0 c a)

  turn_shown : turn_of_entry e ≡ turn_of (λ t. 0) (actor.Core c) a
  turn_shown =
      ap (λ (w : Actor). turn_of (polls_of e.what) w (action_of e.what)) shows.by
      ∙ (ap (turn_of (polls_of e.what) (actor.Core c)) shows.shown ∙ same_turn (polls_of e.what) (λ t. 0) c a)

  outcome_is : outcome s (turn_of (λ t. 0) (actor.Core c) a) ≡ did changes e
  unfolding core_step
  outcome_is = made

  outcome_shown : outcome s (turn_of_entry e) ≡ did changes e
  outcome_shown = ap (outcome s) turn_shown ∙ outcome_is

  pub entry_number : (t : Settings) → actor_number t e.actor ≡ c.0
  entry_number t = ap (actor_number t) shows.by

  pub entry_lawful : IsLawful s e
  unfolding IsLawful
  entry_lawful = (changes, outcome_shown)

  -- it touches what the action looks at
  pub entry_touches : touched s e ≡ looks s (turn_of (λ t. 0) (actor.Core c) a)
  unfolding touched
  entry_touches = ap (looks s) turn_shown

  pub entry_next : next s e ≡ apply s changes
  unfolding next
  entry_next = ap (λ o. apply s (changes_in o)) outcome_shown
