-- A turn of a core without an entry.
use Rattle.std.proofs.Common.{◌≡◌, Bool, true, false, List, Option, Some, None, refl, sym, ap, ◌∙◌, subst}
use Rattle.std.specs.Prelude.{◌==◌, if◌then◌else◌}
use Rattle.std.proofs.lemmas.Option.{none-some, same_Some}
use Rattle.dc_base.specs.declared.actions.Action.{Action}
use Rattle.dc_base.specs.declared.actions.Actor.TheVariants as actor
use Rattle.dc_base.specs.declared.entries.Reason.{Reason}
use Rattle.dc_base.specs.declared.entries.Reason.TheVariants as reason
use Rattle.dc_base.specs.declared.kernels.Version.{Version}
use Rattle.dc_base.specs.Changes.{Name}
use Rattle.dc_base.specs.Cores.{core_action, core_step, turn_of}
use Rattle.dc_base.specs.Histories.{Listed}
use Rattle.dc_base.specs.Outcomes.{if_on}
use Rattle.dc_base.specs.States.{State, Core}
use Rattle.dc_base.specs.Turns.{Outcome, Turn, ends, not_enabled, spent, looks, outcome}
use Rattle.dc_stage.specs.History.{own}
use Rattle.dc_bodies.proofs.WakeTurns.{tested}
use Rattle.dc_bodies.specs.declared.stops.Stepped.TheVariants as stepped
use Rattle.dc_bodies.specs.Stops.{stopped, stopped_at}
use Rattle.dc_machine.proofs.Stops.{core_acts}
use Rattle.dc_hands.specs.declared.answers.Turned.{Turned}
use Rattle.dc_hands.specs.declared.answers.Turned.TheVariants as turned
use Rattle.dc_hands.specs.declared.hands.CoreHand.{CoreHand}
use Rattle.dc_hands.specs.declared.takes.Busy.{Busy}
use Rattle.dc_hands.specs.Answers.{Fails}
use Rattle.dc_core_turns.specs.Beside.{HoldsBeside}
use Rattle.dc_hands.specs.Holding.{Misses}
use Rattle.dc_hands.specs.Machines.{Staged, Passing, IsOpened, state_after}
use Rattle.dc_core_turns.specs.Stopping.{stop_told}
use Rattle.dc_core_turns.specs.Turning.{TakesTurn}
use Rattle.dc_core_turns.proofs.BesideHands.{beside_missed}
use Rattle.dc_hands.proofs.Seeing.{goes_missed, goes_now}

-- the answer says what the outcome is
abbrev Tells : Turned → Outcome → Type 0
Tells (turned.NotEnabled why) o = o ≡ not_enabled why
Tells turned.Spent o = o ≡ spent
Tells r o = ⊥

stops_by : (s : State) (t : Turn) (r : Turned) (u : Bool) (v : Option Version) → stop_told (if u then Some stepped.Spent else stopped_at v) ≡ Some r → Tells r (outcome s (if u then ends spent else if_on v t))
stops_by s t r true v e = subst (λ q. Tells q spent) (same_Some turned.Spent r e) refl
stops_by s t r false None e = subst (λ q. Tells q (not_enabled reason.CoreOff)) (same_Some (turned.NotEnabled reason.CoreOff) r e) refl
stops_by s t r false (Some v) e = absurd (none-some r e)

goes_by : (u : Bool) (v : Option Version) → stop_told (if u then Some stepped.Spent else stopped_at v) ≡ None → (if u then Some stepped.Spent else stopped_at v) ≡ None
goes_by true v e = absurd (none-some turned.Spent (sym e))
goes_by false None e = absurd (none-some (turned.NotEnabled reason.CoreOff) (sym e))
goes_by false (Some v) e = refl

-- a core that is told no reason to stop goes on
pub not_stopped : (k : Core) → stop_told (stopped k) ≡ None → stopped k ≡ None
not_stopped k e = goes_by (k.used == k.settings.slices) k.version e

module _ {D : Type 0} (st : Staged D) (k : Passing D) (h : CoreHand D) (ns : List Name) (holds : HoldsBeside st k h ns) (a : Action) where
  fails : (o : Outcome) → core_step (state_after st k.seen) 0 (actor.Core h.number) a ≡ o → Fails st k k 0 (actor.Core h.number) a o
  fails o e = record { others = refl; refused = refl; turn = e }

  -- the action is not enabled
  pub takes_none : (why : Reason) → core_step (state_after st k.seen) 0 (actor.Core h.number) a ≡ not_enabled why → TakesTurn st k k h h ns a (turned.NotEnabled why)
  takes_none why e = record { hand = holds; number = refl; goes = goes_now k; turn = fails (not_enabled why) e; same = λ none. refl }

  takes_spent : core_step (state_after st k.seen) 0 (actor.Core h.number) a ≡ spent → TakesTurn st k k h h ns a turned.Spent
  takes_spent e = record { hand = holds; number = refl; goes = goes_now k; turn = fails spent e; same = λ none. refl }

  told : (r : Turned) → Tells r (core_step (state_after st k.seen) 0 (actor.Core h.number) a) → TakesTurn st k k h h ns a r
  told (turned.Did e t) h = absurd h
  told (turned.NotEnabled why) h = takes_none why h
  told turned.Spent h = takes_spent h
  told (turned.Busy b) h = absurd h

  -- the core's budget is used, or it is off
  pub takes_stop : (t : Turn) (r : Turned) → core_action h.number.0 h.core a ≡ tested h.core t → stop_told (stopped h.core) ≡ Some r → TakesTurn st k k h h ns a r
  takes_stop t r is e =
      let acts = core_acts (state_after st k.seen) h.number a h.core holds.stands.core ∙ ap (outcome (state_after st k.seen)) is in
      told r (subst (Tells r) (sym acts) (stops_by (state_after st k.seen) t r (h.core.used == h.core.settings.slices) h.core.version e))

  -- another actor had an object at which the action looks
  pub takes_busy : IsOpened st → (l : Passing D) (n : Name) (b : Busy) → Misses st k l n b → Listed n (looks (state_after st k.seen) (turn_of (λ t. 0) (actor.Core h.number) a)) →
      TakesTurn st k l h h ns a (turned.Busy b)
  takes_busy opened l n b g looked =
      let seen : l.seen ≡ k.seen = ap (λ (p : Passing D). p.seen) g.same in
      record {
        hand = beside_missed st opened k h ns holds l n b g;
        number = refl;
        goes = goes_missed st k l n b g;
        turn = record {
          others = ap (own k.actor) seen;
          refused = ap (λ (p : Passing D). p.refused) g.same;
          other = g.other;
          looked = (n, g.number, subst (λ log. Listed n (looks (state_after st log) (turn_of (λ t. 0) (actor.Core h.number) a))) (sym seen) looked);
        };
        same = λ none. refl;
      }
