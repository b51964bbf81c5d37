-- The schedule that a lawful history shows has that history as its journal.
use Rattle.std.proofs.Common.{◌≡◌, ℕ, zero, suc, ◌+◌, ◌-◌, ◌<◌, List, [], ◌∷◌, ◌++◌, Bool, true, false, Option, Some, None, refl, sym, ap, ◌∙◌, subst, append_assoc, length, arith}
use Rattle.std.proofs.lemmas.List.{append-nil}
use Rattle.std.specs.Prelude.{slice_get, nat_lt, nat_le, ◌==◌, if◌then◌else◌, replicate}
use Rattle.std.proofs.lemmas.Bool.Decides.{nat_tests}
use Rattle.dc_base.specs.declared.actions.Actor.{Actor}
use Rattle.dc_base.specs.declared.actions.Actor.TheVariants as actor
use Rattle.dc_base.specs.declared.actions.Action.{Action}
use Rattle.dc_base.specs.declared.actions.Action.TheVariants as action
use Rattle.dc_base.specs.declared.commands.Command.{Command}
use Rattle.dc_base.specs.declared.commands.Order.{Order}
use Rattle.dc_base.specs.declared.commands.Refusal.{Refusal}
use Rattle.dc_base.specs.declared.commands.ScriptLine.{ScriptLine}
use Rattle.dc_base.specs.declared.commands.ScriptLine.TheVariants as line
use Rattle.dc_base.specs.declared.entries.Entry.{Entry}
use Rattle.dc_base.specs.declared.entries.Reason.TheVariants as reason
use Rattle.dc_base.specs.declared.entries.What.{What}
use Rattle.dc_base.specs.declared.entries.What.TheVariants as what
use Rattle.dc_base.specs.declared.numbers.BlockNo.{BlockNo}
use Rattle.dc_base.specs.declared.numbers.CoreNo.{CoreNo}
use Rattle.dc_base.specs.declared.numbers.LineNo.{LineNo}
use Rattle.dc_base.specs.Boot.{refusal}
use Rattle.dc_base.specs.Boot as boot
use Rattle.dc_base.specs.Lines.{Wire}
use Rattle.dc_base.specs.Script.{next_raise}
use Rattle.dc_base.specs.Actions.{action_of, limit_of, polls_of, actions_in}
use Rattle.dc_base.specs.States.{State, Settings, Core, Mailbox, Script, empty, order, ack}
use Rattle.dc_base.specs.Changes.{Change, apply, changed, mailbox_becomes, script_becomes}
use Rattle.dc_base.specs.Turns.{Outcome, did, not_enabled, spent, ends, outcome}
use Rattle.dc_base.specs.Outcomes.{by_script}
use Rattle.dc_base.specs.Commands.{at_next_command, post_or_done, begin, with_ack, go_on_from, boot_turn, route_line, poll, await_outcome, command_turn, raise_above, after_raises}
use Rattle.dc_base.specs.Raises.{raise_on, raise_line, raise_turn}
use Rattle.dc_base.specs.Cores.{core_turn, turn_of, core_step}
use Rattle.dc_base.specs.CoreRuns.{Run, polls_after, after_outcome, run_all, core_run_from, own_schedule}
use Rattle.dc_base.specs.Bounded.{IsSettled}
use Rattle.dc_base.specs.Sound.{IsSound}
use Rattle.dc_base.specs.Histories.{turn_of_entry, IsLawful, IsLawfulHistory, changes_in, next, after, entries_in, history_of}
use Rattle.dc_refine.proofs.EntryActions.{Always, at_last, Mine, core_shows}

abbrev is_unmet : What → Bool
is_unmet (what.Unmet q b seen) = true
is_unmet w = false

abbrev unmet_line : What → ℕ
unmet_line (what.Unmet q b seen) = q
unmet_line w = 0

abbrev line_in : Outcome → ℕ
line_in (did changes e) = unmet_line e.what
line_in o = 0

no_polls : (w : What) → is_unmet w ≡ false → polls_of w ≡ (λ t. 0)
no_polls (what.Unmet q b seen) h = absurd cc
no_polls w h = refl

one_action : (lines : List ScriptLine) (w : What) → is_unmet w ≡ false → actions_in lines w ≡ 1
one_action lines (what.Unmet q b seen) h = absurd cc
one_action lines w h = refl

-- an entry of the script by this action, whatever was polled before
record IsPlain (t : Script) (a : Action) (changes : List Change) (e : Entry) : Type 0 where
  by : e.actor ≡ actor.Script
  shown : action_of e.what ≡ a
  plain : is_unmet e.what ≡ false
  lines : (s : State) → (apply s changes).script.lines ≡ t.lines

abbrev Plain : Script → Action → Outcome → Type 0
Plain t a (did changes e) = IsPlain t a changes e
Plain t a (not_enabled why) = Unit {0}
Plain t a spent = Unit {0}

last_lines : (before after : List Change) (ls : List ScriptLine) → ((s : State) → (apply s after).script.lines ≡ ls) → (s : State) → (apply s (before ++ after)).script.lines ≡ ls
last_lines [] after ls h s = h s
last_lines (ch ∷ before) after ls h s = last_lines before after ls h (changed ch s)

posted_plain : (t : Script) (command : Command) (before : List Change) (o : Option (ℕ × Order)) → Always (Plain t action.Script) (post_or_done t command before o)
posted_plain t command before None = record { by = refl; shown = refl; plain = refl; lines = last_lines before _ t.lines (λ s. refl) }
posted_plain t command before (Some o) = λ m. record { by = refl; shown = refl; plain = refl; lines = last_lines before _ t.lines (λ s. refl) }

ack_plain : (t : Script) (command : Command) (c : ℕ) (m : Option Mailbox) → Always (Plain t action.Script) (with_ack t command c m)
ack_plain t command c None = tt
ack_plain t command c (Some empty) = tt
ack_plain t command c (Some (order o)) = tt
ack_plain t command c (Some ack) = posted_plain t command (mailbox_becomes c empty ∷ []) (slice_get (boot.orders t.registry command) t.posts)

go_on_plain : (t : Script) (command : Command) (o : Option (ℕ × Order)) → Always (Plain t action.Script) (go_on_from t command o)
go_on_plain t command None = tt
go_on_plain t command (Some o) = λ m. ack_plain t command o.0 m

begin_plain : (t : Script) (command : Command) (r : Option Refusal) → Always (Plain t action.Script) (begin t command r)
begin_plain t command None = posted_plain t command [] (slice_get (boot.orders t.registry command) 0)
begin_plain t command (Some r) = record { by = refl; shown = refl; plain = refl; lines = λ s. refl }

boot_plain : (t : Script) (command : Command) (n : ℕ) → Always (Plain t action.Script) (boot_turn t command n)
boot_plain t command zero = begin_plain t command (refusal t.registry command)
boot_plain t command (suc last) = go_on_plain t command (slice_get (boot.orders t.registry command) last)

route_plain : (t : Script) (l : LineNo) (c : CoreNo) (o : Option Wire) → Plain t action.Script (route_line t l c o)
route_plain t l c None = tt
route_plain t l c (Some w) = record { by = refl; shown = refl; plain = refl; lines = λ s. refl }

raised_plain : (t : Script) (q : ℕ) (l : LineNo) (o : Option Wire) → Plain t action.Raise (raise_on t q l o)
raised_plain t q l None = tt
raised_plain t q l (Some w) = record { by = refl; shown = refl; plain = refl; lines = λ s. refl }

line_plain : (t : Script) (q : ℕ) (o : Option ScriptLine) → Always (Plain t action.Raise) (raise_line t q o)
line_plain t q None = tt
line_plain t q (Some (line.Boot c)) = tt
line_plain t q (Some (line.Route l c)) = tt
line_plain t q (Some (line.Await b words limit)) = tt
line_plain t q (Some (line.Raise l)) = λ o. raised_plain t q l o

in_time_plain : (t : Script) (q : ℕ) (f : Bool) → Always (Plain t action.Raise) (if f then ends (not_enabled reason.CommandFirst) else raise_line t q (slice_get t.lines q))
in_time_plain t q true = tt
in_time_plain t q false = line_plain t q (slice_get t.lines q)

raise_plain : (t : Script) (o : Option ℕ) → Always (Plain t action.Raise) (raise_turn t o)
raise_plain t None = tt
raise_plain t (Some q) = in_time_plain t q _

module _ (s : State) where
  abbrev polled : ℕ → Outcome
  polled p = core_step s p actor.Script action.Script

  abbrev unmet : BlockNo → ℕ → Outcome
  unmet b seen = did (script_becomes (at_next_command s.script) ∷ []) (by_script (what.Unmet s.script.place b seen))

  -- the last poll of an await
  record IsLastPoll (m : ℕ) (changes : List Change) (e : Entry) : Type 0 where
    b : BlockNo
    words : ℕ
    limit : ℕ
    seen : ℕ
    in_script : slice_get s.script.lines s.script.place ≡ Some (line.Await b words limit)
    fewer : nat_le words seen ≡ false
    last : nat_lt (m + 1) limit ≡ false
    polls : (p : ℕ) → polled p ≡ poll s.script p b words limit seen
    entry : unmet b seen ≡ did changes e

  data Answer (m : ℕ) (changes : List Change) (e : Entry) : Type 0 where
    plainly : IsPlain s.script action.Script changes e → ((p : ℕ) → polled p ≡ did changes e) → Answer m changes e
    at_limit : IsLastPoll m changes e → Answer m changes e

  module _ (m : ℕ) (changes : List Change) (e : Entry) (h : polled m ≡ did changes e) where
    by_plain : (o : Outcome) → Plain s.script action.Script o → ((p : ℕ) → polled p ≡ o) → Answer m changes e
    by_plain o g t = plainly (subst (Plain s.script action.Script) (sym (t m) ∙ h) g) (λ p. t p ∙ sym (t m) ∙ h)

    by_poll : (b : BlockNo) (words limit seen : ℕ) → slice_get s.script.lines s.script.place ≡ Some (line.Await b words limit) → (f g : Bool) → nat_le words seen ≡ f → nat_lt (m + 1) limit ≡ g →
        ((p : ℕ) → polled p ≡ poll s.script p b words limit seen) → Answer m changes e
    by_poll b words limit seen at true g enough late t =
        by_plain _ (record { by = refl; shown = refl; plain = refl; lines = λ s. refl })
        (λ p. t p ∙ ap (λ v. if v then did (script_becomes (at_next_command s.script) ∷ []) (by_script (what.Met s.script.place b seen)) else (if nat_lt (p + 1) limit then not_enabled (reason.Few seen (p + 1)) else unmet b seen)) enough)
    by_poll b words limit seen at false true enough late t =
        absurd (let bad : not_enabled (reason.Few seen (m + 1)) ≡ did changes e =
        sym (ap (λ v. if v then not_enabled (reason.Few seen (m + 1)) else unmet b seen) late)
        ∙ sym (ap (λ v. if v then did (script_becomes (at_next_command s.script) ∷ []) (by_script (what.Met s.script.place b seen)) else (if nat_lt (m + 1) limit then not_enabled (reason.Few seen (m + 1)) else unmet b seen)) enough)
        ∙ sym (t m) ∙ h in cc)
    by_poll b words limit seen at false false enough late t = at_limit (record {
      b = b;
      words = words;
      limit = limit;
      seen = seen;
      in_script = at;
      fewer = enough;
      last = late;
      polls = t;
      entry =
          sym (ap (λ v. if v then not_enabled (reason.Few seen (m + 1)) else unmet b seen) late)
          ∙ sym (ap (λ v. if v then did (script_becomes (at_next_command s.script) ∷ []) (by_script (what.Met s.script.place b seen)) else (if nat_lt (m + 1) limit then not_enabled (reason.Few seen (m + 1)) else unmet b seen)) enough)
          ∙ sym (t m) ∙ h;
    })

    by_console : (b : BlockNo) (words limit : ℕ) → slice_get s.script.lines s.script.place ≡ Some (line.Await b words limit) → (o : Option (List ℕ)) →
        ((p : ℕ) → polled p ≡ await_outcome s.script p b words limit o) → Answer m changes e
    by_console b words limit at None t = absurd (let bad : not_enabled reason.ScriptEnded ≡ did changes e = sym (t m) ∙ h in cc)
    by_console b words limit at (Some ws) t = by_poll b words limit (length ws) at (nat_le words (length ws)) (nat_lt (m + 1) limit) refl refl t

    by_line : (o : Option ScriptLine) → slice_get s.script.lines s.script.place ≡ o → ((p : ℕ) → polled p ≡ outcome s (command_turn s.script p o)) → Answer m changes e
    by_line None at t = absurd (let bad : not_enabled reason.ScriptEnded ≡ did changes e = sym (t m) ∙ h in cc)
    by_line (Some (line.Boot command)) at t = by_plain _ (at_last (Plain s.script action.Script) s (boot_turn s.script command s.script.posts) (boot_plain s.script command s.script.posts)) t
    by_line (Some (line.Route l c)) at t = by_plain _ (route_plain s.script l c (slice_get s.lines l.0)) t
    by_line (Some (line.Await b words limit)) at t = by_console b words limit at (slice_get s.consoles b.0) t
    by_line (Some (line.Raise l)) at t = absurd (let bad : not_enabled reason.ScriptEnded ≡ did changes e = sym (t m) ∙ h in cc)

    by_above : (o : Option ℕ) → ((p : ℕ) → polled p ≡ outcome s (after_raises o (command_turn s.script p (slice_get s.script.lines s.script.place)))) → Answer m changes e
    by_above None t = by_line (slice_get s.script.lines s.script.place) refl t
    by_above (Some q) t = absurd (let bad : not_enabled (reason.RaisesFirst q) ≡ did changes e = sym (t m) ∙ h in cc)

    by_place : (f : Bool) →
        ((p : ℕ) → polled p ≡ outcome s (if f then ends (not_enabled reason.ScriptEnded) else after_raises (raise_above s.script.place (next_raise s.script.lines s.script.raises)) (command_turn s.script p (slice_get s.script.lines s.script.place)))) → Answer m changes e
    by_place true t = absurd (let bad : not_enabled reason.ScriptEnded ≡ did changes e = sym (t m) ∙ h in cc)
    by_place false t = by_above (raise_above s.script.place (next_raise s.script.lines s.script.raises)) t

    answer : Answer m changes e
    unfolding core_step turn_of
    answer = by_place (s.script.place == length s.script.lines) (λ p. refl)

-- an entry is lawful in the state that it is made in, and the script's lines stay
pub record IsMade (s : State) (changes : List Change) (e : Entry) : Type 0 where
  pub lawful : outcome s (turn_of_entry e) ≡ did changes e
  pub lines : (apply s changes).script.lines ≡ s.script.lines

abbrev Made : State → Outcome → Type 0
Made s (did changes e) = IsMade s changes e
Made s (not_enabled why) = Unit {0}
Made s spent = Unit {0}

at_end : (m limit : ℕ) → m ≡ limit → nat_lt (m - 1 + 1) limit ≡ false
at_end m limit h = grind (arith, nat_tests)

-- what an actor's action comes to, by the polls that the script's place gives
step_of : (s : State) (f : Script → ℕ) (who : Actor) (a : Action) → outcome s (turn_of f who a) ≡ core_step s (f s.script) who a
unfolding turn_of core_step
step_of s f (actor.Core c) a = refl
step_of s f actor.Script action.Script = refl
step_of s f actor.Script action.Raise = refl
step_of s f actor.Script action.Step = refl
step_of s f actor.Script action.Order = refl
step_of s f actor.Script (action.Intake l) = refl
step_of s f actor.Script (action.Wake b d) = refl

-- polls are the script's alone
core_step_of : (s : State) (m n : ℕ) (c : CoreNo) (a : Action) → core_step s m (actor.Core c) a ≡ core_step s n (actor.Core c) a
unfolding turn_of core_step
core_step_of s m n c a = refl

raise_step_of : (s : State) (m n : ℕ) → core_step s m actor.Script action.Raise ≡ core_step s n actor.Script action.Raise
unfolding turn_of core_step
raise_step_of s m n = refl

abbrev is_of_cores : Action → Bool
is_of_cores action.Script = false
is_of_cores action.Raise = false
is_of_cores a = true

no_step : (s : State) (m : ℕ) (a : Action) (changes : List Change) (e : Entry) → is_of_cores a ≡ true → core_step s m actor.Script a ≡ did changes e → ⊥
unfolding core_step turn_of
no_step s m action.Script changes e n h = cc
no_step s m action.Raise changes e n h = cc
no_step s m action.Step changes e n h = cc
no_step s m action.Order changes e n h = cc
no_step s m (action.Intake l) changes e n h = cc
no_step s m (action.Wake b d) changes e n h = cc

module _ (s : State) where
  -- an entry of an action that needs no polls
  shown_by : (m : ℕ) (who : Actor) (a : Action) (changes : List Change) (e : Entry) → ((n : ℕ) → core_step s n who a ≡ did changes e) → e.actor ≡ who → action_of e.what ≡ a → outcome s (turn_of_entry e) ≡ did changes e
  shown_by m who a changes e h by shown =
      ap (λ w. outcome s (turn_of (polls_of e.what) w (action_of e.what))) by
      ∙ ap (λ b. outcome s (turn_of (polls_of e.what) who b)) shown
      ∙ step_of s (polls_of e.what) who a
      ∙ h (polls_of e.what s.script)

  core_made : (m : ℕ) (c : CoreNo) (a : Action) (changes : List Change) (e : Entry) → core_step s m (actor.Core c) a ≡ did changes e → IsMade s changes e
  core_made m c a changes e h =
      let mine : Mine c.0 a (did changes e) = subst (Mine c.0 a) h (core_shows s m c a) in
      record { lawful = shown_by m (actor.Core c) a changes e (λ n. core_step_of s n m c a ∙ h) mine.by mine.shown; lines = ap (λ (t : Script). t.lines) (mine.script s) }

  raise_made : (m : ℕ) (changes : List Change) (e : Entry) → core_step s m actor.Script action.Raise ≡ did changes e → IsMade s changes e
  unfolding core_step turn_of
  raise_made m changes e h =
      let plain : Plain s.script action.Raise (did changes e) = subst (Plain s.script action.Raise) h (at_last (Plain s.script action.Raise) s (raise_turn s.script (next_raise s.script.lines s.script.raises)) (raise_plain s.script (next_raise s.script.lines s.script.raises))) in
      record { lawful = shown_by m actor.Script action.Raise changes e (λ n. raise_step_of s n m ∙ h) plain.by plain.shown; lines = plain.lines s }

  -- the last poll is made after as many polls as the limit says
  unmet_made : (b : BlockNo) (words limit seen : ℕ) → slice_get s.script.lines s.script.place ≡ Some (line.Await b words limit) → nat_le words seen ≡ false →
      ((p : ℕ) → polled s p ≡ poll s.script p b words limit seen) → Made s (unmet s b seen)
  unmet_made b words limit seen at fewer polls = record {
    lawful =
        step_of s (λ t. limit_of (slice_get t.lines t.place) - 1) actor.Script action.Script
        ∙ polls (limit_of (slice_get s.script.lines s.script.place) - 1)
        ∙ ap (λ v. if v then did (script_becomes (at_next_command s.script) ∷ []) (by_script (what.Met s.script.place b seen)) else
        (if nat_lt (limit_of (slice_get s.script.lines s.script.place) - 1 + 1) limit then not_enabled (reason.Few seen (limit_of (slice_get s.script.lines s.script.place) - 1 + 1)) else unmet s b seen)) fewer
        ∙ ap (λ v. if v then not_enabled (reason.Few seen (limit_of (slice_get s.script.lines s.script.place) - 1 + 1)) else unmet s b seen) (at_end (limit_of (slice_get s.script.lines s.script.place)) limit (ap limit_of at));
    lines = refl;
  }

  answer_made : (m : ℕ) (changes : List Change) (e : Entry) → Answer s m changes e → IsMade s changes e
  answer_made m changes e (plainly p all) = record { lawful = shown_by m actor.Script action.Script changes e all p.by p.shown; lines = p.lines s }
  answer_made m changes e (at_limit l) = subst (Made s) l.entry (unmet_made l.b l.words l.limit l.seen l.in_script l.fewer l.polls)

  pub step_made : (m : ℕ) (who : Actor) (a : Action) (changes : List Change) (e : Entry) → core_step s m who a ≡ did changes e → IsMade s changes e
  step_made m (actor.Core c) a changes e h = core_made m c a changes e h
  step_made m actor.Script action.Script changes e h = answer_made m changes e (answer s m changes e h)
  step_made m actor.Script action.Raise changes e h = raise_made m changes e h
  step_made m actor.Script action.Step changes e h = absurd (no_step s m action.Step changes e refl h)
  step_made m actor.Script action.Order changes e h = absurd (no_step s m action.Order changes e refl h)
  step_made m actor.Script (action.Intake l) changes e h = absurd (no_step s m (action.Intake l) changes e refl h)
  step_made m actor.Script (action.Wake b d) changes e h = absurd (no_step s m (action.Wake b d) changes e refl h)

-- histories

abbrev pub after_all : State → List Entry → State
after_all s [] = s
after_all s (e ∷ es) = after_all (next s e) es

abbrev pub AllLawful : State → List Entry → Type 0
AllLawful s [] = Unit {0}
AllLawful s (e ∷ es) = IsLawful s e × AllLawful (next s e) es

-- an await polls at least once
abbrev pub PollsOnce : List ScriptLine → Type 0
PollsOnce lines = (q : ℕ) (b : BlockNo) (words limit : ℕ) → slice_get lines q ≡ Some (line.Await b words limit) → 0 < limit

-- the actions that an entry shows make it
pub record IsOwn (s : State) (e : Entry) : Type 0 where
  pub own : (journal : List Entry) (skipped : ℕ) → (n : ℕ) × (run_all (record { state = s; polls = 0; journal = journal; skipped = skipped }) (replicate (actions_in s.script.lines e.what) (e.actor, action_of e.what)) ≡
      record { state = next s e; polls = 0; journal = journal ++ e ∷ []; skipped = n })
  pub lines : (next s e).script.lines ≡ s.script.lines

still_none : (a : Action) → polls_after a 0 ≡ 0
still_none action.Script = refl
still_none a = refl

abbrev made_next : State → List Entry → Entry → ℕ → Run
made_next m journal e n = record { state = m; polls = 0; journal = journal ++ e ∷ []; skipped = n }

module _ (s : State) (polls_once : PollsOnce s.script.lines) where
  module _ (e : Entry) (chs : List Change) (lawful_is : outcome s (turn_of_entry e) ≡ did chs e) where
    next_is : next s e ≡ apply s chs
    unfolding next
    next_is = ap (λ o. apply s (changes_in o)) lawful_is

    stepped : core_step s (polls_of e.what s.script) e.actor (action_of e.what) ≡ did chs e
    stepped = sym (step_of s (polls_of e.what) e.actor (action_of e.what)) ∙ lawful_is

    lines_are : (next s e).script.lines ≡ s.script.lines
    lines_are = ap (λ (m : State). m.script.lines) next_is ∙ (step_made s (polls_of e.what s.script) e.actor (action_of e.what) chs e stepped).lines

    -- the one action
    once : is_unmet e.what ≡ false → IsOwn s e
    once f =
        let step : core_step s 0 e.actor (action_of e.what) ≡ did chs e = ap (λ p. core_step s (p s.script) e.actor (action_of e.what)) (sym (no_polls e.what f)) ∙ stepped in
        record {
          own = λ journal skipped. (
            skipped,
            ap (λ n. run_all (record { state = s; polls = 0; journal = journal; skipped = skipped }) (replicate n (e.actor, action_of e.what))) (one_action s.script.lines e.what f)
                ∙ ap (after_outcome (record { state = s; polls = 0; journal = journal; skipped = skipped }) (action_of e.what)) step
                ∙ ap (λ p. record { state = apply s chs; polls = p; journal = journal ++ e ∷ []; skipped = skipped }) (still_none (action_of e.what))
                ∙ ap (λ m. made_next m journal e skipped) (sym next_is),
          );
          lines = lines_are;
        }

    -- so many polls and the last one
    module _ (m : ℕ) (f : IsLastPoll s m chs e) where
      few : (p : ℕ) → nat_lt (p + 1) f.limit ≡ true → polled s p ≡ not_enabled (reason.Few f.seen (p + 1))
      few p g =
          f.polls p
          ∙ ap (λ v. if v then did (script_becomes (at_next_command s.script) ∷ []) (by_script (what.Met s.script.place f.b f.seen)) else (if nat_lt (p + 1) f.limit then not_enabled (reason.Few f.seen (p + 1)) else unmet s f.b f.seen)) f.fewer
          ∙ ap (λ v. if v then not_enabled (reason.Few f.seen (p + 1)) else unmet s f.b f.seen) g

      done : (p : ℕ) → nat_lt (p + 1) f.limit ≡ false → polled s p ≡ did chs e
      done p g =
          f.polls p
          ∙ ap (λ v. if v then did (script_becomes (at_next_command s.script) ∷ []) (by_script (what.Met s.script.place f.b f.seen)) else (if nat_lt (p + 1) f.limit then not_enabled (reason.Few f.seen (p + 1)) else unmet s f.b f.seen)) f.fewer
          ∙ ap (λ v. if v then not_enabled (reason.Few f.seen (p + 1)) else unmet s f.b f.seen) g
          ∙ f.entry

      all_polls : (k p : ℕ) → p + suc k ≡ f.limit → (journal : List Entry) (skipped : ℕ) → (n : ℕ) × (run_all (record { state = s; polls = p; journal = journal; skipped = skipped }) (replicate (suc k) (actor.Script, action.Script)) ≡ made_next (next s e) journal e n)
      all_polls zero p h journal skipped =
          let late : nat_lt (p + 1) f.limit ≡ false = grind (arith, nat_tests) in
          (skipped, ap (after_outcome (record { state = s; polls = p; journal = journal; skipped = skipped }) action.Script) (done p late) ∙ ap (λ m. made_next m journal e skipped) (sym next_is))
      all_polls (suc k) p h journal skipped =
          let early : nat_lt (p + 1) f.limit ≡ true = grind (arith, nat_tests) in
          let more = all_polls k (p + 1) (omega (arith, h)) journal (skipped + 1) in
          (more.0, ap (λ o. run_all (after_outcome (record { state = s; polls = p; journal = journal; skipped = skipped }) action.Script o) (replicate (suc k) (actor.Script, action.Script))) (few p early) ∙ more.1)

  above : (n : ℕ) → 0 < n → suc (n - 1) ≡ n
  above n h = omega (arith, h)

  unmet_own : (q : ℕ) (b : BlockNo) (seen : ℕ) (chs : List Change) → outcome s (turn_of_entry (by_script (what.Unmet q b seen))) ≡ did chs (by_script (what.Unmet q b seen)) → (m : ℕ) → Answer s m chs (by_script (what.Unmet q b seen)) → IsOwn s (by_script (what.Unmet q b seen))
  unmet_own q b seen chs l m (plainly p all) = absurd (let bad : true ≡ false = p.plain in cc)
  unmet_own q b seen chs l m (at_limit f) =
      let place : q ≡ s.script.place = sym (ap line_in f.entry) in
      let limit : limit_of (slice_get s.script.lines q) ≡ f.limit = ap (λ i. limit_of (slice_get s.script.lines i)) place ∙ ap limit_of f.in_script in
      let long : suc (f.limit - 1) ≡ f.limit = above f.limit (polls_once s.script.place f.b f.words f.limit f.in_script) in
      record {
        own = λ journal skipped.
            let all = all_polls (by_script (what.Unmet q b seen)) chs l m f (f.limit - 1) 0 (omega (arith, long)) journal skipped in
            (all.0, ap (λ n. run_all (record { state = s; polls = 0; journal = journal; skipped = skipped }) (replicate n (actor.Script, action.Script))) (limit ∙ sym long) ∙ all.1);
        lines = lines_are (by_script (what.Unmet q b seen)) chs l;
      }

  no_core_polls : (c : CoreNo) (changes : List Change) (e : Entry) (m : ℕ) → core_step s m (actor.Core c) action.Script ≡ did changes e → ⊥
  unfolding core_step turn_of
  no_core_polls c changes e m h = by_core (slice_get s.cores c.0) h
    where
      by_core : (o : Option Core) → outcome s (core_turn c.0 action.Script o) ≡ did changes e → ⊥
      by_core None g = cc
      by_core (Some k) g = cc

  own_by : (who : Actor) (w : What) (f : Bool) → is_unmet w ≡ f → (chs : List Change) → outcome s (turn_of_entry (record { actor = who; what = w })) ≡ did chs (record { actor = who; what = w }) → IsOwn s (record { actor = who; what = w })
  own_by who w false f chs l = once (record { actor = who; what = w }) chs l f
  own_by actor.Script (what.Unmet q b seen) true f chs l =
      let e : Entry = by_script (what.Unmet q b seen) in
      let m : ℕ = limit_of (slice_get s.script.lines s.script.place) - 1 in
      unmet_own q b seen chs l m (answer s m chs e (stepped e chs l))
  own_by (actor.Core c) (what.Unmet q b seen) true f chs l =
      let e : Entry = record { actor = actor.Core c; what = what.Unmet q b seen } in
      absurd (no_core_polls c chs e (limit_of (slice_get s.script.lines s.script.place) - 1) (stepped e chs l))
  own_by who w true f chs l = absurd cc

  pub own_entry : (e : Entry) → IsLawful s e → IsOwn s e
  unfolding IsLawful
  own_entry e l = own_by e.actor e.what (is_unmet e.what) refl l.0 l.1

-- what a lawful entry is
pub record IsStep (s : State) (e : Entry) : Type 0 where
  pub polls : ℕ
  pub changes : List Change
  pub step : core_step s polls e.actor (action_of e.what) ≡ did changes e
  pub next : next s e ≡ apply s changes

pub lawful_step : (s : State) (e : Entry) → IsLawful s e → IsStep s e
unfolding IsLawful next
lawful_step s e l = record {
  polls = polls_of e.what s.script;
  changes = l.0;
  step = sym (step_of s (polls_of e.what) e.actor (action_of e.what)) ∙ l.1;
  next = ap (λ o. apply s (changes_in o)) l.1;
}

made_lawful : (s : State) (changes : List Change) (e : Entry) → IsMade s changes e → IsLawful s e
unfolding IsLawful
made_lawful s changes e m = (changes, m.lawful)

made_next_is : (s : State) (changes : List Change) (e : Entry) → IsMade s changes e → next s e ≡ apply s changes
unfolding next
made_next_is s changes e m = ap (λ o. apply s (changes_in o)) m.lawful

lawful_snoc : (s : State) (es : List Entry) (e : Entry) → AllLawful s es → IsLawful (after_all s es) e → AllLawful s (es ++ e ∷ [])
lawful_snoc s [] e h l = (l, tt)
lawful_snoc s (d ∷ es) e h l = (h.0, lawful_snoc (next s d) es e h.1 l)

pub after_snoc : (s : State) (es : List Entry) (e : Entry) → after_all s (es ++ e ∷ []) ≡ next (after_all s es) e
after_snoc s [] e = refl
after_snoc s (d ∷ es) e = after_snoc (next s d) es e

pub lawful_first : (s : State) (es fs : List Entry) → AllLawful s (es ++ fs) → AllLawful s es
lawful_first s [] fs h = tt
lawful_first s (e ∷ es) fs h = (h.0, lawful_first (next s e) es fs h.1)

pub lawful_rest : (s : State) (es fs : List Entry) → AllLawful s (es ++ fs) → AllLawful (after_all s es) fs
lawful_rest s [] fs h = h
lawful_rest s (e ∷ es) fs h = lawful_rest (next s e) es fs h.1

-- the journal of a run is lawful, and leads to its last state
pub record IsLed (start : State) (r : Run) : Type 0 where
  pub lawful : AllLawful start r.journal
  pub state : after_all start r.journal ≡ r.state

led_by : (start : State) (r : Run) (who : Actor) (a : Action) (o : Outcome) → core_step r.state r.polls who a ≡ o → IsLed start r → IsLed start (after_outcome r a o)
led_by start r who a (did changes e) h led =
    let made = step_made r.state r.polls who a changes e h in
    record {
      lawful = lawful_snoc start r.journal e led.lawful (subst (λ m. IsLawful m e) (sym led.state) (made_lawful r.state changes e made));
      state = after_snoc start r.journal e ∙ ap (λ m. next m e) led.state ∙ made_next_is r.state changes e made;
    }
led_by start r who a (not_enabled why) h led = record { lawful = led.lawful; state = led.state }
led_by start r who a spent h led = record { lawful = led.lawful; state = led.state }

all_led : (start : State) (r : Run) (schedule : List (Actor × Action)) → IsLed start r → IsLed start (run_all r schedule)
all_led start r [] led = led
all_led start r (a ∷ more) led = all_led start (after_outcome r a.1 (core_step r.state r.polls a.0 a.1)) more (led_by start r a.0 a.1 (core_step r.state r.polls a.0 a.1) refl led)

pub run_led : (start : State) (schedule : List (Actor × Action)) → IsLed start (core_run_from start schedule)
unfolding core_run_from
run_led start schedule = all_led start (record { state = start; polls = 0; journal = []; skipped = 0 }) schedule (record { lawful = tt; state = refl })

run_all-append : (r : Run) (first more : List (Actor × Action)) → run_all r (first ++ more) ≡ run_all (run_all r first) more
run_all-append r [] more = refl
run_all-append r (a ∷ first) more = run_all-append (after_outcome r a.1 (core_step r.state r.polls a.0 a.1)) first more

-- the run of the schedule that lawful entries show has these entries, and leads to the state after them
module _ (lines : List ScriptLine) (polls_once : PollsOnce lines) where
  own_from : (es : List Entry) (s : State) → s.script.lines ≡ lines → AllLawful s es → (journal : List Entry) (skipped : ℕ) →
      (n : ℕ) × (run_all (record { state = s; polls = 0; journal = journal; skipped = skipped }) (own_schedule lines es) ≡ record { state = after_all s es; polls = 0; journal = journal ++ es; skipped = n })
  own_from [] s same all journal skipped = (skipped, ap (λ j. record { state = s; polls = 0; journal = j; skipped = skipped }) (sym (append-nil journal)))
  own_from (e ∷ es) s same all journal skipped =
      let own = own_entry s (subst PollsOnce (sym same) polls_once) e all.0 in
      let one = own.own journal skipped in
      let more = own_from es (next s e) (own.lines ∙ same) all.1 (journal ++ e ∷ []) one.0 in (
        more.0,
        run_all-append (record { state = s; polls = 0; journal = journal; skipped = skipped }) (replicate (actions_in lines e.what) (e.actor, action_of e.what)) (own_schedule lines es)
            ∙ ap (λ ls. run_all (run_all (record { state = s; polls = 0; journal = journal; skipped = skipped }) (replicate (actions_in ls e.what) (e.actor, action_of e.what))) (own_schedule lines es)) (sym same)
            ∙ ap (λ r. run_all r (own_schedule lines es)) one.1
            ∙ more.1
            ∙ ap (λ j. record { state = after_all (next s e) es; polls = 0; journal = j; skipped = more.0 }) (append_assoc journal (e ∷ []) es),
      )

pub record IsOwnRun (s : State) (es : List Entry) (r : Run) : Type 0 where
  pub journal : r.journal ≡ es
  pub state : r.state ≡ after_all s es

pub own_run_is : (s : State) (es : List Entry) → PollsOnce s.script.lines → AllLawful s es → IsOwnRun s es (core_run_from s (own_schedule s.script.lines es))
unfolding core_run_from
own_run_is s es polls_once all =
    let own = own_from s.script.lines polls_once es s refl all [] 0 in
    record { journal = ap (λ (r : Run). r.journal) own.1; state = ap (λ (r : Run). r.state) own.1 }

pub polls_once_of : (s : State) → IsSettled s → PollsOnce s.script.lines
polls_once_of s settled q b words limit at = (settled.within q (line.Await b words limit) at).2

-- histories with the numbers of their actors
pub all_of_history : (t : Settings) (s : State) (history : List (ℕ × Entry)) → IsLawfulHistory t s history → AllLawful s (entries_in history)
all_of_history t s [] h = tt
all_of_history t s (e ∷ es) h = (h.0.1, all_of_history t (next s e.1) es h.1)

pub after_history : (s : State) (history : List (ℕ × Entry)) → after_all s (entries_in history) ≡ after s history
after_history s [] = refl
after_history s (e ∷ es) = after_history (next s e.1) es

pub history_of_all : (t : Settings) (s : State) (es : List Entry) → AllLawful s es → IsLawfulHistory t s (history_of t es)
history_of_all t s [] h = tt
history_of_all t s (e ∷ es) h = ((refl, h.0), history_of_all t (next s e) es h.1)

pub after_all_history : (t : Settings) (s : State) (es : List Entry) → after s (history_of t es) ≡ after_all s es
after_all_history t s [] = refl
after_all_history t s (e ∷ es) = after_all_history t (next s e) es

pub history_journal : (t : Settings) (s : State) (history : List (ℕ × Entry)) → IsSound s → IsLawfulHistory t s history → (core_run_from s (own_schedule s.script.lines (entries_in history))).journal ≡ entries_in history
history_journal t s history sound h = (own_run_is s (entries_in history) (polls_once_of s sound.settled) (all_of_history t s history h)).journal

pub history_state : (t : Settings) (s : State) (history : List (ℕ × Entry)) → IsSound s → IsLawfulHistory t s history → (core_run_from s (own_schedule s.script.lines (entries_in history))).state ≡ after s history
history_state t s history sound h = (own_run_is s (entries_in history) (polls_once_of s sound.settled) (all_of_history t s history h)).state ∙ after_history s history

pub run_lawful : (t : Settings) (s : State) (schedule : List (Actor × Action)) → IsLawfulHistory t s (history_of t (core_run_from s schedule).journal)
run_lawful t s schedule = history_of_all t s (core_run_from s schedule).journal (run_led s schedule).lawful

pub run_leads : (t : Settings) (s : State) (schedule : List (Actor × Action)) → after s (history_of t (core_run_from s schedule).journal) ≡ (core_run_from s schedule).state
run_leads t s schedule = after_all_history t s (core_run_from s schedule).journal ∙ (run_led s schedule).state
