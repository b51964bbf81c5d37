-- Whatever the script and the cores do follows.
use Rattle.std.proofs.Common.{◌≡◌, ℕ, List, Bool, true, false, Option, Some, None, refl, sym, subst, length}
use Rattle.std.specs.Prelude.{slice_get, ◌==◌, if◌then◌else◌}
use Rattle.dc_base.specs.declared.actions.Actor.{Actor}
use Rattle.dc_base.specs.declared.actions.Actor.TheVariants as actor
use Rattle.dc_base.specs.declared.actions.Action.{Action}
use Rattle.dc_base.specs.declared.actions.Action.TheVariants as action
use Rattle.dc_base.specs.declared.commands.Order.{Order}
use Rattle.dc_base.specs.declared.commands.Order.TheVariants as orders
use Rattle.dc_base.specs.declared.commands.ScriptLine.{ScriptLine}
use Rattle.dc_base.specs.declared.commands.ScriptLine.TheVariants as line
use Rattle.dc_base.specs.declared.entries.Entry.{Entry}
use Rattle.dc_base.specs.declared.entries.Reason.TheVariants as reason
use Rattle.dc_base.specs.Blocks.{Blocks}
use Rattle.dc_base.specs.Script.{next_raise}
use Rattle.dc_base.specs.States.{State, Core, Mailbox, empty, order, ack}
use Rattle.dc_base.specs.Changes.{Change, apply}
use Rattle.dc_base.specs.Turns.{did, not_enabled, ends, outcome}
use Rattle.dc_base.specs.Orders.{order_turn, carry_out}
use Rattle.dc_base.specs.Commands.{raise_above, after_raises, command_turn}
use Rattle.dc_base.specs.Cores.{core_action, core_turn, turn_of, core_step}
use Rattle.dc_base.specs.StandsFor.{StandsFor}
use Rattle.dc_base.specs.Runs.{Terms, Seen}
use Rattle.dc_base.specs.Sound.{IsSound}
use Rattle.dc_base.specs.Telling.{IsOf, Agrees}
use Rattle.dc_refine.specs.Follows.{Follows}
use Rattle.dc_refine.proofs.Follow.{SameScript}
use Rattle.dc_refine.proofs.Good.{Good, follows_from, script_from}
use Rattle.dc_refine.proofs.Idles.{step_good}
use Rattle.dc_refine.proofs.Wake.{wake_good}
use Rattle.dc_refine.proofs.Intakes.{intake_good}
use Rattle.dc_refine.proofs.Starts.{start_good}
use Rattle.dc_refine.proofs.Stops.{stop_good}
use Rattle.dc_refine.proofs.Replacements.{replace_good}
use Rattle.dc_refine.proofs.Adoptions.{adopt_good}
use Rattle.dc_refine.proofs.Releases.{release_good}
use Rattle.dc_refine.proofs.Awaits.{await_good}
use Rattle.dc_refine.proofs.Routes.{route_good}
use Rattle.dc_refine.proofs.Raise.{raise_good}
use Rattle.dc_refine.proofs.Posts.{boot_good}

module _ (terms : Terms) (lines : List ScriptLine) (s : State) (t : Blocks) (of : IsOf terms lines s) (sound : IsSound s) (stands : StandsFor s t) where
  by_order : (c : ℕ) (k : Core) → slice_get s.cores c ≡ Some k → (o : Order) → slice_get s.mailboxes c ≡ Some (order o) → Good terms lines s t (outcome s (carry_out c k o))
  by_order c k at (orders.Start v) e = start_good terms lines s t sound stands c k v at e
  by_order c k at orders.Stop e = stop_good terms lines s t sound stands c k at e
  by_order c k at (orders.Replace v) e = replace_good terms lines s t sound stands c k v at e
  by_order c k at (orders.Adopt b parked) e = adopt_good terms lines s t of sound stands c k b parked at e
  by_order c k at (orders.Release b) e = release_good terms lines s t sound stands c k b at e

  by_mailbox : (c : ℕ) (k : Core) → slice_get s.cores c ≡ Some k → (m : Option Mailbox) → slice_get s.mailboxes c ≡ m → Good terms lines s t (outcome s (order_turn c k m))
  by_mailbox c k at None e = tt
  by_mailbox c k at (Some empty) e = tt
  by_mailbox c k at (Some ack) e = tt
  by_mailbox c k at (Some (order o)) e = by_order c k at o e

  by_action : (c : ℕ) (k : Core) → slice_get s.cores c ≡ Some k → (a : Action) → Good terms lines s t (outcome s (core_action c k a))
  by_action c k at action.Step = step_good terms lines s t of sound stands c k at
  by_action c k at action.Order = by_mailbox c k at (slice_get s.mailboxes c) refl
  by_action c k at (action.Intake l) = intake_good terms lines s t sound stands c l.0 k at
  by_action c k at (action.Wake b d) = wake_good terms lines s t sound stands c b.0 d.0 k at
  by_action c k at action.Script = tt
  by_action c k at action.Raise = tt

  by_core : (c : ℕ) (a : Action) (o : Option Core) → slice_get s.cores c ≡ o → Good terms lines s t (outcome s (core_turn c a o))
  by_core c a None e = tt
  by_core c a (Some k) e = by_action c k e a

  module _ (polls : ℕ) where
    by_line : raise_above s.script.place (next_raise s.script.lines s.script.raises) ≡ None → (o : Option ScriptLine) → slice_get s.script.lines s.script.place ≡ o → Good terms lines s t (outcome s (command_turn s.script polls o))
    by_line none None e = tt
    by_line none (Some (line.Boot command)) e = boot_good terms lines s t of sound stands command e none
    by_line none (Some (line.Route l c)) e = route_good terms lines s t of sound stands none l c e (slice_get s.lines l.0) refl
    by_line none (Some (line.Await b words limit)) e = await_good terms lines s t of sound stands none b words limit e polls (slice_get s.consoles b.0) refl
    by_line none (Some (line.Raise l)) e = tt

    by_raises : (o : Option ℕ) → raise_above s.script.place (next_raise s.script.lines s.script.raises) ≡ o → Good terms lines s t (outcome s (after_raises o (command_turn s.script polls (slice_get s.script.lines s.script.place))))
    by_raises None e = by_line e (slice_get s.script.lines s.script.place) refl
    by_raises (Some q) e = tt

    by_place : (f : Bool) → Good terms lines s t (outcome s (if f then ends (not_enabled reason.ScriptEnded) else after_raises (raise_above s.script.place (next_raise s.script.lines s.script.raises)) (command_turn s.script polls (slice_get s.script.lines s.script.place))))
    by_place true = tt
    by_place false = by_raises (raise_above s.script.place (next_raise s.script.lines s.script.raises)) refl

    -- whatever an actor's action does follows
    pub step_follows : (who : Actor) (a : Action) → Good terms lines s t (core_step s polls who a)
    unfolding core_step turn_of
    step_follows (actor.Core c) a = by_core c.0 a (slice_get s.cores c.0) refl
    step_follows actor.Script action.Script = by_place (s.script.place == length s.script.lines)
    step_follows actor.Script action.Raise = raise_good terms lines s t of sound stands
    step_follows actor.Script action.Step = tt
    step_follows actor.Script action.Order = tt
    step_follows actor.Script (action.Intake l) = tt
    step_follows actor.Script (action.Wake b d) = tt

-- each entry of a sound state follows
pub entries_all : (terms : Terms) (lines : List ScriptLine) (s : State) (n : Seen) (t : Blocks) (polls : ℕ) (who : Actor) (a : Action) (changes : List Change) (e : Entry) →
    IsSound s → StandsFor s t → Agrees s n → n.blocks ≡ t → IsOf terms lines s → core_step s polls who a ≡ did changes e → Follows terms lines n e (apply s changes)
entries_all terms lines s n t polls who a changes e sound stands agrees same of h =
    follows_from terms lines s n (core_step s polls who a) changes e agrees (subst (λ t. Good terms lines s t (core_step s polls who a)) (sym same) (step_follows terms lines s t of sound stands polls who a)) h

-- and the terms and the script's lines stay
pub script_all : (terms : Terms) (lines : List ScriptLine) (s : State) (t : Blocks) (polls : ℕ) (who : Actor) (a : Action) (changes : List Change) (e : Entry) →
    IsSound s → StandsFor s t → IsOf terms lines s → core_step s polls who a ≡ did changes e → SameScript s (apply s changes)
script_all terms lines s t polls who a changes e sound stands of h = script_from terms lines s t (core_step s polls who a) changes e (step_follows terms lines s t of sound stands polls who a) h
