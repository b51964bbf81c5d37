-- A refused command moves the script's place on, and changes nothing else.
use Rattle.std.proofs.Common.{◌≡◌, ℕ, zero, suc, ◌+◌, List, [], ◌∷◌, Bool, true, false, Option, Some, None, refl, sym, ap, ◌∙◌, subst, length}
use Rattle.std.specs.Prelude.{slice_get, nat_lt, nat_le, ◌==◌, if◌then◌else◌}
use Rattle.dc_base.specs.declared.actions.Actor.{Actor}
use Rattle.dc_base.specs.declared.actions.Actor.TheVariants as actor
use Rattle.dc_base.specs.declared.actions.Action.{Action}
use Rattle.dc_base.specs.declared.actions.Action.TheVariants as action
use Rattle.dc_base.specs.declared.commands.Command.{Command}
use Rattle.dc_base.specs.declared.commands.Order.{Order}
use Rattle.dc_base.specs.declared.commands.Refusal.{Refusal}
use Rattle.dc_base.specs.declared.commands.ScriptLine.{ScriptLine}
use Rattle.dc_base.specs.declared.commands.ScriptLine.TheVariants as line
use Rattle.dc_base.specs.declared.entries.Entry.{Entry}
use Rattle.dc_base.specs.declared.entries.Reason.TheVariants as reason
use Rattle.dc_base.specs.declared.entries.What.{What}
use Rattle.dc_base.specs.declared.entries.What.TheVariants as what
use Rattle.dc_base.specs.declared.numbers.BlockNo.{BlockNo}
use Rattle.dc_base.specs.declared.numbers.CoreNo.{CoreNo}
use Rattle.dc_base.specs.declared.numbers.LineNo.{LineNo}
use Rattle.dc_base.specs.Boot.{refusal}
use Rattle.dc_base.specs.Boot as boot
use Rattle.dc_base.specs.Lines.{Wire}
use Rattle.dc_base.specs.Script.{next_command, next_raise}
use Rattle.dc_base.specs.States.{State, Core, Mailbox, Script, empty, order, ack}
use Rattle.dc_base.specs.Changes.{Change, apply, mailbox_becomes, script_becomes}
use Rattle.dc_base.specs.Turns.{Outcome, did, not_enabled, spent, Turn, ends, outcome}
use Rattle.dc_base.specs.Outcomes.{by_script}
use Rattle.dc_base.specs.Commands.{at_next_command, post_or_done, begin, with_ack, go_on_from, boot_turn, route_line, await_outcome, command_turn, raise_above, after_raises}
use Rattle.dc_base.specs.Raises.{raise_on, raise_line, raise_turn}
use Rattle.dc_base.specs.Cores.{core_turn, turn_of, core_step}
use Rattle.dc_base.specs.Actions.{action_of}
use Rattle.dc_refine.proofs.EntryActions.{Always, at_last, Mine, core_shows}

abbrev is_refused : What → Bool
is_refused (what.Refused q r) = true
is_refused w = false

abbrev is_script : Action → Bool
is_script action.Script = true
is_script a = false

refused_by_script : (w : What) → is_refused w ≡ true → action_of w ≡ action.Script
refused_by_script (what.Refused q r) h = refl
refused_by_script w h = absurd cc

-- no refusal
abbrev Other : Outcome → Type 0
Other (did changes e) = is_refused e.what ≡ false
Other (not_enabled why) = Unit {0}
Other spent = Unit {0}

abbrev AlwaysOther : Turn → Type 0
AlwaysOther t = Always Other t

-- a raise
raised_other : (t : Script) (q : ℕ) (o : Option ScriptLine) → AlwaysOther (raise_line t q o)
raised_other t q None = tt
raised_other t q (Some (line.Boot c)) = tt
raised_other t q (Some (line.Route l c)) = tt
raised_other t q (Some (line.Await b words limit)) = tt
raised_other t q (Some (line.Raise l)) = by_wire
  where
    by_wire : (o : Option Wire) → Other (raise_on t q l o)
    by_wire None = tt
    by_wire (Some w) = refl

raise_in_time : (t : Script) (q : ℕ) (f : Bool) → AlwaysOther (if f then ends (not_enabled reason.CommandFirst) else raise_line t q (slice_get t.lines q))
raise_in_time t q true = tt
raise_in_time t q false = raised_other t q (slice_get t.lines q)

raise_other : (t : Script) (o : Option ℕ) → AlwaysOther (raise_turn t o)
raise_other t None = tt
raise_other t (Some q) = raise_in_time t q _

-- what a refused command does
abbrev moved_on : State → State
moved_on s = record s { script = record s.script { place = next_command s.script.lines (s.script.place + 1) } }

abbrev Moves : State → Outcome → Type 0
Moves s (did changes e) = is_refused e.what ≡ true → apply s changes ≡ moved_on s
Moves s (not_enabled why) = Unit {0}
Moves s spent = Unit {0}

other_moves : (s : State) (o : Outcome) → Other o → Moves s o
other_moves s (did changes e) h = λ g. absurd (let f : false ≡ true = sym h ∙ g in false_true f)
  where
    false_true : false ≡ true → ⊥
    false_true f = cc
other_moves s (not_enabled why) h = tt
other_moves s spent h = tt

posted_other : (t : Script) (command : Command) (before : List Change) (o : Option (ℕ × Order)) → AlwaysOther (post_or_done t command before o)
posted_other t command before None = refl
posted_other t command before (Some o) = λ m. refl

ack_other : (t : Script) (command : Command) (c : ℕ) (m : Option Mailbox) → AlwaysOther (with_ack t command c m)
ack_other t command c None = tt
ack_other t command c (Some empty) = tt
ack_other t command c (Some (order o)) = tt
ack_other t command c (Some ack) = posted_other t command (mailbox_becomes c empty ∷ []) (slice_get (boot.orders t.registry command) t.posts)

go_on_other : (t : Script) (command : Command) (o : Option (ℕ × Order)) → AlwaysOther (go_on_from t command o)
go_on_other t command None = tt
go_on_other t command (Some o) = λ m. ack_other t command o.0 m

route_other : (t : Script) (l : LineNo) (c : CoreNo) (o : Option Wire) → Other (route_line t l c o)
route_other t l c None = tt
route_other t l c (Some w) = refl

poll_other : (t : Script) (polls : ℕ) (b : BlockNo) (words limit : ℕ) (ws : List ℕ) (f g : Bool) →
    Other (if f then did (script_becomes (at_next_command t) ∷ []) (by_script (what.Met t.place b (length ws))) else (if g then not_enabled (reason.Few (length ws) (polls + 1)) else did (script_becomes (at_next_command t) ∷ []) (by_script (what.Unmet t.place b (length ws)))))
poll_other t polls b words limit ws true g = refl
poll_other t polls b words limit ws false true = tt
poll_other t polls b words limit ws false false = refl

await_other : (t : Script) (polls : ℕ) (b : BlockNo) (words limit : ℕ) (o : Option (List ℕ)) → Other (await_outcome t polls b words limit o)
await_other t polls b words limit None = tt
await_other t polls b words limit (Some ws) = poll_other t polls b words limit ws (nat_le words (length ws)) (nat_lt (polls + 1) limit)

module _ (s : State) where
  begin_moves : (command : Command) → s.script.posts ≡ 0 → (r : Option Refusal) → Moves s (outcome s (begin s.script command r))
  begin_moves command idle None = other_moves s _ (at_last Other s (post_or_done s.script command [] (slice_get (boot.orders s.script.registry command) 0)) (posted_other s.script command [] (slice_get (boot.orders s.script.registry command) 0)))
  begin_moves command idle (Some r) = λ h. ap (λ n. record s { script = record s.script { place = next_command s.script.lines (s.script.place + 1); posts = n } }) (sym idle)

  boot_moves : (command : Command) (n : ℕ) → s.script.posts ≡ n → Moves s (outcome s (boot_turn s.script command n))
  boot_moves command zero e = begin_moves command e (refusal s.script.registry command)
  boot_moves command (suc last) e = other_moves s _ (at_last Other s (go_on_from s.script command (slice_get (boot.orders s.script.registry command) last)) (go_on_other s.script command (slice_get (boot.orders s.script.registry command) last)))

  command_moves : (polls : ℕ) (o : Option ScriptLine) → Moves s (outcome s (command_turn s.script polls o))
  command_moves polls None = tt
  command_moves polls (Some (line.Boot command)) = boot_moves command s.script.posts refl
  command_moves polls (Some (line.Route l c)) = other_moves s _ (route_other s.script l c (slice_get s.lines l.0))
  command_moves polls (Some (line.Await b words limit)) = other_moves s _ (await_other s.script polls b words limit (slice_get s.consoles b.0))
  command_moves polls (Some (line.Raise l)) = tt

  raises_move : (polls : ℕ) (o : Option ℕ) → Moves s (outcome s (after_raises o (command_turn s.script polls (slice_get s.script.lines s.script.place))))
  raises_move polls None = command_moves polls (slice_get s.script.lines s.script.place)
  raises_move polls (Some q) = tt

  script_moves : (polls : ℕ) (f : Bool) → Moves s (outcome s (if f then ends (not_enabled reason.ScriptEnded) else after_raises (raise_above s.script.place (next_raise s.script.lines s.script.raises)) (command_turn s.script polls (slice_get s.script.lines s.script.place))))
  script_moves polls true = tt
  script_moves polls false = raises_move polls (raise_above s.script.place (next_raise s.script.lines s.script.raises))

  -- no core refuses a command
  no_script : (c : ℕ) (o : Option Core) → Moves s (outcome s (core_turn c action.Script o))
  no_script c None = tt
  no_script c (Some k) = tt

  core_moves : (c : ℕ) (a : Action) → is_script a ≡ false → (o : Outcome) → Mine c a o → Moves s o
  core_moves c a n (did changes e) m = λ h. absurd (let bad : false ≡ true = sym n ∙ ap is_script (sym m.shown) ∙ ap is_script (refused_by_script e.what h) in cc)
  core_moves c a n (not_enabled why) m = tt
  core_moves c a n spent m = tt

  step_moves : (polls : ℕ) (who : Actor) (a : Action) → Moves s (core_step s polls who a)
  unfolding core_step turn_of
  step_moves polls (actor.Core c) action.Script = no_script c.0 (slice_get s.cores c.0)
  step_moves polls (actor.Core c) action.Step = core_moves c.0 action.Step refl _ (core_shows s polls c action.Step)
  step_moves polls (actor.Core c) action.Order = core_moves c.0 action.Order refl _ (core_shows s polls c action.Order)
  step_moves polls (actor.Core c) action.Raise = core_moves c.0 action.Raise refl _ (core_shows s polls c action.Raise)
  step_moves polls (actor.Core c) (action.Intake l) = core_moves c.0 (action.Intake l) refl _ (core_shows s polls c (action.Intake l))
  step_moves polls (actor.Core c) (action.Wake b d) = core_moves c.0 (action.Wake b d) refl _ (core_shows s polls c (action.Wake b d))
  step_moves polls actor.Script action.Script = script_moves polls (s.script.place == length s.script.lines)
  step_moves polls actor.Script action.Raise = other_moves s _ (at_last Other s (raise_turn s.script (next_raise s.script.lines s.script.raises)) (raise_other s.script (next_raise s.script.lines s.script.raises)))
  step_moves polls actor.Script action.Step = tt
  step_moves polls actor.Script action.Order = tt
  step_moves polls actor.Script (action.Intake l) = tt
  step_moves polls actor.Script (action.Wake b d) = tt

-- a refused command changes only the place of the script
pub refused-moves : (s : State) (polls : ℕ) (who : Actor) (a : Action) (changes : List Change) (e : Entry) (q : ℕ) (r : Refusal) → core_step s polls who a ≡ did changes e → e.what ≡ what.Refused q r →
    apply s changes ≡ record s { script = record s.script { place = next_command s.script.lines (s.script.place + 1) } }
refused-moves s polls who a changes e q r h g =
    let moves : Moves s (did changes e) = subst (Moves s) h (step_moves s polls who a) in
    moves (ap is_refused g)
