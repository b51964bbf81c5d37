-- An entry that an action of a core makes.
use Rattle.std.proofs.Common.{◌≡◌, ℕ, List, sym, ap, ◌∙◌, subst}
use Rattle.dc_base.specs.declared.actions.Action.{Action}
use Rattle.dc_base.specs.declared.actions.Actor.TheVariants as actor
use Rattle.dc_base.specs.declared.entries.Entry.{Entry}
use Rattle.dc_base.specs.declared.numbers.CoreNo.{CoreNo}
use Rattle.dc_base.specs.Actions.{action_of, polls_of}
use Rattle.dc_base.specs.Changes.{Name, Change, apply, at}
use Rattle.dc_base.specs.Cores.{core_step, turn_of}
use Rattle.dc_base.specs.Histories.{touched, IsLawful, next, changes_in, Listed}
use Rattle.dc_base.specs.States.{State}
use Rattle.dc_base.specs.Turns.{did, looks}
use Rattle.dc_bodies.specs.Does.{Does}
use Rattle.dc_refine.proofs.EntryActions.{IsMine, Mine, core_shows}
use Rattle.dc_refine.proofs.OwnSchedules.{step_made}
use Rattle.dc_touch.proofs.Looks.{turn_alike}

module _ (s : State) (c : CoreNo) (a : Action) (changes : List Change) (e : Entry) (does : Does s (actor.Core c) a changes e) where
  pub stepped : (polls : ℕ) → core_step s polls (actor.Core c) a ≡ did changes e
  unfolding core_step
  stepped polls = does (λ t. polls)

  mine : IsMine c.0 a changes e
  mine = subst (Mine c.0 a) (stepped 0) (core_shows s 0 c a)

  -- the entry is the core's
  pub by_core : e.actor ≡ actor.Core c
  by_core = mine.by

  pub made_lawful : IsLawful s e
  unfolding IsLawful
  made_lawful = (changes, (step_made s 0 (actor.Core c) a changes e (stepped 0)).lawful)

  -- the entry touches what the action looks at
  pub made_touches : touched s e ≡ looks s (turn_of (λ t. 0) (actor.Core c) a)
  unfolding touched turn_of
  made_touches =
      ap (λ w. looks s (turn_of (polls_of e.what) w (action_of e.what))) mine.by
      ∙ ap (λ b. looks s (turn_of (polls_of e.what) (actor.Core c) b)) mine.shown

  pub made_next : next s e ≡ apply s changes
  unfolding next
  made_next = ap (λ o. apply s (changes_in o)) (step_made s 0 (actor.Core c) a changes e (stepped 0)).lawful

  -- the action makes the same entry where all that the entry touches stands alike
  pub made_alike : (t : State) → ((n : Name) → Listed n (touched s e) → at t n ≡ at s n) → core_step t 0 (actor.Core c) a ≡ did changes e
  unfolding core_step
  made_alike t same =
      let alike = turn_alike s t (turn_of (λ u. 0) (actor.Core c) a) (λ n l. sym (same n (subst (Listed n) (sym made_touches) l))) in
      sym alike.outcomes ∙ does (λ u. 0)
