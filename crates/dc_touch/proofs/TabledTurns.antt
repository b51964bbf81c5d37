-- A lawful entry touches what the table says.
use Rattle.std.proofs.Common.{◌≡◌, ◌↔◌, ℕ, List, [], ◌∷◌, Option, Some, None, refl, map}
use Rattle.std.specs.Prelude.{slice_get}
use Rattle.std.specs.List.Sorted.{IsPermutation}
use Rattle.std.proofs.lemmas.List.Sorted.{IsPermutation-map}
use Rattle.dc_base.specs.declared.actions.Actor.{Actor}
use Rattle.dc_base.specs.declared.actions.Actor.TheVariants as actor
use Rattle.dc_base.specs.declared.actions.Action.{Action}
use Rattle.dc_base.specs.declared.actions.Action.TheVariants as action
use Rattle.dc_base.specs.declared.entries.Entry.{Entry}
use Rattle.dc_base.specs.Script.{next_raise}
use Rattle.dc_base.specs.States.{State, Settings, Core, Script}
use Rattle.dc_base.specs.Actions.{action_of, polls_of}
use Rattle.dc_base.specs.Changes.{Name, a_core, Change}
use Rattle.dc_base.specs.Cores.{core_action, core_turn, turn_of}
use Rattle.dc_base.specs.Histories.{touched, IsLawful, Listed}
use Rattle.dc_base.specs.Objects.{object_number, touched_numbers}
use Rattle.dc_base.specs.TouchTable.{tabled_touches}
use Rattle.dc_touch.proofs.Rearranged.{listed_alike}
use Rattle.dc_touch.proofs.Tabled.{IsTabled, refused}
use Rattle.dc_touch.proofs.TabledSlices.{step_tabled}
use Rattle.dc_touch.proofs.TabledWakes.{wake_tabled}
use Rattle.dc_touch.proofs.TabledIntakes.{intake_tabled}
use Rattle.dc_touch.proofs.TabledOrders.{order_tabled}
use Rattle.dc_touch.proofs.TabledCommands.{script_tabled}
use Rattle.dc_touch.proofs.TabledRaises.{raise_tabled}

module _ (s : State) (chs : List Change) (e : Entry) where
  action_tabled : (c : ℕ) (k : Core) → slice_get s.cores c ≡ Some k → (a : Action) → IsTabled s chs e (a_core c ∷ []) (core_action c k a)
  action_tabled c k here action.Step = step_tabled s chs e c k here
  action_tabled c k here action.Order = order_tabled s chs e c k here (slice_get s.mailboxes c)
  action_tabled c k here (action.Intake l) = intake_tabled s chs e c k here l.0
  action_tabled c k here (action.Wake b d) = wake_tabled s chs e c k here b.0 d.0
  action_tabled c k here action.Script = refused s chs e _
  action_tabled c k here action.Raise = refused s chs e _

  core_tabled : (c : ℕ) (a : Action) (o : Option Core) → slice_get s.cores c ≡ o → IsTabled s chs e (a_core c ∷ []) (core_turn c a o)
  core_tabled c a None here = refused s chs e _
  core_tabled c a (Some k) here = action_tabled c k here a

  turn_tabled : (polls : Script → ℕ) (who : Actor) (a : Action) → IsTabled s chs e [] (turn_of polls who a)
  unfolding turn_of
  turn_tabled polls (actor.Core c) a = core_tabled c.0 a (slice_get s.cores c.0) refl
  turn_tabled polls actor.Script action.Script = script_tabled s chs e (polls s.script)
  turn_tabled polls actor.Script action.Raise = raise_tabled s chs e (next_raise s.script.lines s.script.raises)
  turn_tabled polls actor.Script a = refused s chs e _

pub entry_tabled : (s : State) (e : Entry) → IsLawful s e → IsPermutation (touched s e) (tabled_touches s e)
unfolding touched IsLawful
entry_tabled s e h = turn_tabled s h.0 e (polls_of e.what) e.actor (action_of e.what) h.1

-- an object is touched exactly where the table lists it
pub entry_listed : (s : State) (e : Entry) → IsLawful s e → (n : Name) → Listed n (touched s e) ↔ Listed n (tabled_touches s e)
entry_listed s e h n = listed_alike (touched s e) (tabled_touches s e) n (entry_tabled s e h)

-- the same by the numbers of objects
pub entry_tabled_by_number : (t : Settings) (s : State) (e : Entry) → IsLawful s e → IsPermutation (touched_numbers t s e) (map (object_number t) (tabled_touches s e))
unfolding touched_numbers
entry_tabled_by_number t s e h = IsPermutation-map (object_number t) (touched s e) (tabled_touches s e) (entry_tabled s e h)
