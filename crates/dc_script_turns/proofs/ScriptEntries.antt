-- An entry that the script's action makes is the script's, lawful, and touches what the action looks at.
use Rattle.std.proofs.Common.{◌≡◌, ℕ, zero, suc, List, [], ◌∷◌, Bool, true, false, Option, Some, None, refl, sym, ap, ◌∙◌, subst}
use Rattle.std.specs.Prelude.{⊤, slice_get, ◌==◌, ◌+◌, nat_le, nat_lt, length, if◌then◌else◌}
use Rattle.dc_base.specs.declared.actions.Action.{Action}
use Rattle.dc_base.specs.declared.actions.Action.TheVariants as action
use Rattle.dc_base.specs.declared.actions.Actor.TheVariants as actor
use Rattle.dc_base.specs.declared.commands.Command.{Command}
use Rattle.dc_base.specs.declared.commands.Order.{Order}
use Rattle.dc_base.specs.declared.commands.Refusal.{Refusal}
use Rattle.dc_base.specs.declared.commands.ScriptLine.{ScriptLine}
use Rattle.dc_base.specs.declared.commands.ScriptLine.TheVariants as line
use Rattle.dc_base.specs.declared.entries.Entry.{Entry}
use Rattle.dc_base.specs.declared.entries.Reason.{Reason}
use Rattle.dc_base.specs.declared.entries.Reason.TheVariants as reason
use Rattle.dc_base.specs.declared.entries.What.TheVariants as what
use Rattle.dc_base.specs.declared.numbers.BlockNo.{BlockNo}
use Rattle.dc_base.specs.declared.numbers.CoreNo.{CoreNo}
use Rattle.dc_base.specs.declared.numbers.LineNo.{LineNo}
use Rattle.dc_base.specs.Actions.{action_of, polls_of}
use Rattle.dc_base.specs.Boot as boot
use Rattle.dc_base.specs.Changes.{Name, Change, apply, mailbox_becomes, script_becomes}
use Rattle.dc_base.specs.Commands.{after_raises, at_next_command, await_outcome, begin, boot_turn, command_turn, go_on_from, post_or_done, raise_above, route_line, script_turn, with_ack}
use Rattle.dc_base.specs.Cores.{core_step, turn_of}
use Rattle.dc_base.specs.Histories.{IsLawful, actor_number, changes_in, next, touched}
use Rattle.dc_base.specs.Lines.{Wire}
use Rattle.dc_base.specs.Outcomes.{by_script}
use Rattle.dc_base.specs.Raises.{first_unbegun, raise_line, raise_on, raise_turn}
use Rattle.dc_base.specs.Script.{next_raise}
use Rattle.dc_base.specs.States.{State, Settings, Script, Mailbox, ack, empty, order}
use Rattle.dc_base.specs.Turns.{Outcome, Turn, did, ends, looks, not_enabled, spent}
use Rattle.dc_bodies.specs.Does.{Does, Refuses}
use Rattle.dc_bodies.specs.Scripted.{GoesOn}
use Rattle.dc_refine.proofs.EntryActions.{Always, at_last}
use Rattle.dc_refine.proofs.OwnSchedules.{step_made}
use Rattle.dc_script_turns.specs.Scripting.{IsNoAwait, IsNoUnmet}

-- an entry of the script by this action, which ends no await for want of words where that is plain
pub record IsScripts (a : Action) (plain : Type 0) (e : Entry) : Type 0 where
  pub by : e.actor ≡ actor.Script
  pub shown : action_of e.what ≡ a
  pub kind : plain → IsNoUnmet e.what

abbrev Scripts : Action → Type 0 → Outcome → Type 0
Scripts a plain (did changes e) = IsScripts a plain e
Scripts a plain (not_enabled why) = Unit {0}
Scripts a plain spent = Unit {0}

abbrev Commands : Type 0 → Turn → Type 0
Commands plain = Always (Scripts action.Script plain)

abbrev Raises : Turn → Type 0
Raises = Always (Scripts action.Raise ⊤)

-- no await stands there
abbrev pub HasNoAwait : Option ScriptLine → Type 0
HasNoAwait None = ⊤
HasNoAwait (Some l) = IsNoAwait l

post_shows : (t : Script) (c : Command) (before : List Change) (o : Option (ℕ × Order)) → Commands ⊤ (post_or_done t c before o)
post_shows t c before None = record { by = refl; shown = refl; kind = λ p. tt }
post_shows t c before (Some o) = λ m. record { by = refl; shown = refl; kind = λ p. tt }

ack_shows : (t : Script) (c : Command) (core : ℕ) (m : Option Mailbox) → Commands ⊤ (with_ack t c core m)
ack_shows t c core None = tt
ack_shows t c core (Some empty) = tt
ack_shows t c core (Some (order o)) = tt
ack_shows t c core (Some ack) = post_shows t c (mailbox_becomes core empty ∷ []) (slice_get (boot.orders t.registry c) t.posts)

later_shows : (t : Script) (c : Command) (o : Option (ℕ × Order)) → Commands ⊤ (go_on_from t c o)
later_shows t c None = tt
later_shows t c (Some o) = λ m. ack_shows t c o.0 m

begin_shows : (t : Script) (c : Command) (r : Option Refusal) → Commands ⊤ (begin t c r)
begin_shows t c None = post_shows t c [] (slice_get (boot.orders t.registry c) 0)
begin_shows t c (Some r) = record { by = refl; shown = refl; kind = λ p. tt }

boot_shows : (t : Script) (c : Command) (n : ℕ) → Commands ⊤ (boot_turn t c n)
boot_shows t c zero = begin_shows t c (boot.refusal t.registry c)
boot_shows t c (suc last) = later_shows t c (slice_get (boot.orders t.registry c) last)

route_shows : (t : Script) (l : LineNo) (c : CoreNo) (o : Option Wire) → Scripts action.Script ⊤ (route_line t l c o)
route_shows t l c None = tt
route_shows t l c (Some w) = record { by = refl; shown = refl; kind = λ p. tt }

few_shows : (t : Script) (b : BlockNo) (seen polls : ℕ) (enough more : Bool) → Scripts action.Script ⊥ (
    if enough then did (script_becomes (at_next_command t) ∷ []) (by_script (what.Met t.place b seen))
    else if more then not_enabled (reason.Few seen (polls + 1))
    else did (script_becomes (at_next_command t) ∷ []) (by_script (what.Unmet t.place b seen)))
few_shows t b seen polls true more = record { by = refl; shown = refl; kind = λ p. tt }
few_shows t b seen polls false true = tt
few_shows t b seen polls false false = record { by = refl; shown = refl; kind = λ p. absurd p }

await_shows : (t : Script) (polls : ℕ) (b : BlockNo) (words limit : ℕ) (o : Option (List ℕ)) → Scripts action.Script ⊥ (await_outcome t polls b words limit o)
await_shows t polls b words limit None = tt
await_shows t polls b words limit (Some ws) = few_shows t b (length ws) polls (nat_le words (length ws)) (nat_lt (polls + 1) limit)

line_shows : (t : Script) (polls : ℕ) (o : Option ScriptLine) → Commands (HasNoAwait o) (command_turn t polls o)
line_shows t polls None = tt
line_shows t polls (Some (line.Boot c)) = boot_shows t c t.posts
line_shows t polls (Some (line.Route l c)) = λ o. route_shows t l c o
line_shows t polls (Some (line.Await b words limit)) = λ o. await_shows t polls b words limit o
line_shows t polls (Some (line.Raise l)) = tt

above_shows : (plain : Type 0) (o : Option ℕ) (turn : Turn) → Commands plain turn → Commands plain (after_raises o turn)
above_shows plain None turn h = h
above_shows plain (Some q) turn h = tt

over_shows : (plain : Type 0) (over : Bool) (turn : Turn) → Commands plain turn → Commands plain (if over then ends (not_enabled reason.ScriptEnded) else turn)
over_shows plain true turn h = tt
over_shows plain false turn h = h

command_shows : (t : Script) (polls : ℕ) → Commands (HasNoAwait (slice_get t.lines t.place)) (script_turn t polls)
command_shows t polls =
    let turn = command_turn t polls (slice_get t.lines t.place) in
    let above = raise_above t.place (next_raise t.lines t.raises) in
    let plain = HasNoAwait (slice_get t.lines t.place) in
    over_shows plain (t.place == length t.lines) (after_raises above turn) (above_shows plain above turn (line_shows t polls (slice_get t.lines t.place)))

raised_shows : (t : Script) (q : ℕ) (l : LineNo) (o : Option Wire) → Scripts action.Raise ⊤ (raise_on t q l o)
raised_shows t q l None = tt
raised_shows t q l (Some w) = record { by = refl; shown = refl; kind = λ p. tt }

raise_line_shows : (t : Script) (q : ℕ) (o : Option ScriptLine) → Raises (raise_line t q o)
raise_line_shows t q None = tt
raise_line_shows t q (Some (line.Boot c)) = tt
raise_line_shows t q (Some (line.Route l c)) = tt
raise_line_shows t q (Some (line.Await b words limit)) = tt
raise_line_shows t q (Some (line.Raise l)) = λ o. raised_shows t q l o

in_time_shows : (t : Script) (q : ℕ) (late : Bool) → Raises (if late then ends (not_enabled reason.CommandFirst) else raise_line t q (slice_get t.lines q))
in_time_shows t q true = tt
in_time_shows t q false = raise_line_shows t q (slice_get t.lines q)

raise_shows : (t : Script) (o : Option ℕ) → Raises (raise_turn t o)
raise_shows t None = tt
raise_shows t (Some q) = in_time_shows t q (nat_lt (first_unbegun t) q)

-- the action ends no await: it is a raise, or the script stands at none
abbrev pub IsPlain : Script → Action → Type 0
IsPlain t action.Script = HasNoAwait (slice_get t.lines t.place)
IsPlain t a = ⊤

-- an entry of the script shows the action that made it
pub shows : (s : State) (polls : ℕ) (a : Action) (changes : List Change) (e : Entry) → core_step s polls actor.Script a ≡ did changes e
    → IsScripts a (IsPlain s.script a) e
unfolding core_step turn_of
shows s polls action.Script changes e h =
    let p = Scripts action.Script (IsPlain s.script action.Script) in
    subst p h (at_last p s (script_turn s.script polls) (command_shows s.script polls))
shows s polls action.Raise changes e h =
    let o = next_raise s.script.lines s.script.raises in
    subst (Scripts action.Raise ⊤) h (at_last (Scripts action.Raise ⊤) s (raise_turn s.script o) (raise_shows s.script o))
shows s polls action.Step changes e h = absurd cc
shows s polls action.Order changes e h = absurd cc
shows s polls (action.Intake l) changes e h = absurd cc
shows s polls (action.Wake b d) changes e h = absurd cc

module _ (s : State) (polls : ℕ) (a : Action) (changes : List Change) (e : Entry) (step : core_step s polls actor.Script a ≡ did changes e) where
  pub is_lawful : IsLawful s e
  unfolding IsLawful
  is_lawful = (changes, (step_made s polls actor.Script a changes e step).lawful)

  -- the state after it
  pub next_is : next s e ≡ apply s changes
  unfolding next
  next_is = ap (λ o. apply s (changes_in o)) (step_made s polls actor.Script a changes e step).lawful

  -- it is the script's
  pub is_scripts : (t : Settings) → actor_number t e.actor ≡ t.cores
  is_scripts t = ap (actor_number t) (shows s polls a changes e step).by

  -- it ends no await for want of words, where the action ends none
  pub is_no_unmet : IsPlain s.script a → IsNoUnmet e.what
  is_no_unmet h = (shows s polls a changes e step).kind h

  -- it touches what the action looks at
  pub touches : (ns : List Name) → ((f : Script → ℕ) → looks s (turn_of f actor.Script a) ≡ ns) → touched s e ≡ ns
  unfolding touched
  touches ns h =
      ap (λ w. looks s (turn_of (polls_of e.what) w (action_of e.what))) (shows s polls a changes e step).by
      ∙ ap (λ b. looks s (turn_of (polls_of e.what) actor.Script b)) (shows s polls a changes e step).shown
      ∙ h (polls_of e.what)

-- what an action does however many polls were made, it does after so many
pub does_step : (s : State) (a : Action) (changes : List Change) (e : Entry) → Does s actor.Script a changes e → (polls : ℕ) → core_step s polls actor.Script a ≡ did changes e
unfolding core_step
does_step s a changes e h polls = h (λ t. polls)

pub refuses_step : (s : State) (a : Action) (why : Reason) → Refuses s actor.Script a why → (polls : ℕ) → core_step s polls actor.Script a ≡ not_enabled why
unfolding core_step
refuses_step s a why h polls = h (λ t. polls)

-- the script stands at no await
pub plain_at : (s : State) (t : Script) → s.script ≡ t → (l : ScriptLine) → GoesOn t l → IsNoAwait l → IsPlain s.script action.Script
plain_at s t is l h plain = subst (λ (u : Script). HasNoAwait (slice_get u.lines u.place)) (sym is) (subst HasNoAwait (sym h.line) plain)
