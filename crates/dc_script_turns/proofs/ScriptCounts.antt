-- How the polls of the command at the script's place are counted.
use Rattle.std.proofs.Common.{◌≡◌, ◌<◌, ◌≤◌, ◌+◌, ◌-◌, ℕ, List, [], ◌∷◌, Some, refl, sym, ap, ◌∙◌, subst, arith, length}
use Rattle.std.specs.Prelude.{slice_get, min}
use Rattle.std.proofs.Math.Nat.{min-le_right}
use Rattle.dc_base.specs.declared.actions.Action.{Action}
use Rattle.dc_base.specs.declared.actions.Action.TheVariants as action
use Rattle.dc_base.specs.declared.actions.Actor.TheVariants as actor
use Rattle.dc_base.specs.declared.commands.ScriptLine.TheVariants as line
use Rattle.dc_base.specs.declared.entries.Entry.{Entry}
use Rattle.dc_base.specs.declared.entries.Reason.{Reason}
use Rattle.dc_base.specs.declared.entries.Reason.TheVariants as reason
use Rattle.dc_base.specs.declared.entries.What.TheVariants as what
use Rattle.dc_base.specs.declared.numbers.BlockNo.{BlockNo}
use Rattle.dc_base.specs.Changes.{Name, a_console, console, script_becomes}
use Rattle.dc_base.specs.Commands.{at_next_command}
use Rattle.dc_base.specs.CoreRuns.{polls_at}
use Rattle.dc_base.specs.Cores.{core_step}
use Rattle.dc_base.specs.Outcomes.{by_script}
use Rattle.dc_base.specs.States.{Script}
use Rattle.dc_base.specs.Turns.{did, not_enabled}
use Rattle.dc_bodies.proofs.CommandTurns.{met_is, poll_is}
use Rattle.dc_bodies.specs.Awaits.{IsAwaited, IsPoll}
use Rattle.dc_bodies.specs.Scripted.{GoesOn, IsNoPoll}
use Rattle.dc_machine.proofs.Bodies.{awaited_step, polled_step}
use Rattle.dc_stage.specs.declared.stage.Ticket.{Ticket}
use Rattle.dc_hands.specs.declared.answers.Turned.{Turned}
use Rattle.dc_hands.specs.declared.answers.Turned.TheVariants as turned
use Rattle.dc_hands.specs.declared.hands.ScriptHand.{ScriptHand}
use Rattle.dc_hands.specs.declared.takes.Busy.{Busy}
use Rattle.dc_hands.specs.Answers.{AnswersTurn}
use Rattle.dc_hands.specs.Hands.{HoldsScript}
use Rattle.dc_hands.specs.Holding.{Has}
use Rattle.dc_hands.specs.Machines.{Passing, Staged, state_after}
use Rattle.dc_script_turns.specs.Scripting.{Acts, AnswersPolls, Counts, HoldsBeside, IsQuiet, Polls, polls_then}
use Rattle.dc_script_turns.proofs.ScriptMakes.{Makes}
use Rattle.dc_script_turns.proofs.ScriptSteps.{Enters, Reaches, answers_through, ended, fails, kept_console, kept_script}
use Rattle.dc_hands.proofs.Seeing.{goes_through, sees_now}

-- a reason that is about no poll leaves the polls as they are
pub quiet_at : (why : Reason) (polls : ℕ) → IsNoPoll why → polls_at why polls ≡ polls
quiet_at reason.CoreOff polls h = refl
quiet_at reason.Nothing polls h = refl
quiet_at reason.NoOrder polls h = refl
quiet_at reason.NotPending polls h = refl
quiet_at (reason.NotRouted route) polls h = refl
quiet_at (reason.NotHere b) polls h = refl
quiet_at reason.NotWaiting polls h = refl
quiet_at reason.StillWaits polls h = refl
quiet_at (reason.NoAck c) polls h = refl
quiet_at (reason.RaisesFirst q) polls h = refl
quiet_at reason.CommandFirst polls h = refl
quiet_at reason.NoRaise polls h = refl
quiet_at reason.ScriptEnded polls h = refl
quiet_at (reason.Few seen new) polls h = absurd h

-- a raise leaves the polls as they are
pub raise_keeps : (r : Turned) (polls : ℕ) → IsQuiet r → polls_then action.Raise polls r ≡ polls
raise_keeps (turned.Did e t) polls h = refl
raise_keeps (turned.NotEnabled why) polls h = quiet_at why polls h
raise_keeps turned.Spent polls h = refl
raise_keeps (turned.Busy b) polls h = refl

few_then : (r : Turned) (polls : ℕ) → IsQuiet r → polls ≤ 1000000000 → polls_then action.Script polls r ≤ 1000000000
few_then (turned.Did e t) polls h few = omega arith
few_then (turned.NotEnabled why) polls h few = subst (λ n. n ≤ 1000000000) (sym (quiet_at why polls h)) few
few_then turned.Spent polls h few = few
few_then (turned.Busy b) polls h few = few

module _ {D : Type 0} (st : Staged D) where
  polled_hand : (k : Passing D) (h : ScriptHand) (n : ℕ) → HoldsScript st k h → n ≤ 1000000000 → HoldsScript st k (record h { polls = n })
  polled_hand k h n x few = record { actor = x.actor; lawful = x.lawful; script = x.script; polls = few; holds = x.holds }

  module _ (k l : Passing D) (h i : ScriptHand) where
    -- an answer that is about no poll is one of many polls too
    pub answers_quiet : (r : Turned) (most : ℕ) → IsQuiet r → AnswersTurn st k l h.polls actor.Script action.Script r → AnswersPolls st k l h i most r
    answers_quiet (turned.Did e t) most q x = (x, q)
    answers_quiet turned.Spent most q x = x
    answers_quiet (turned.Busy b) most q x = x
    answers_quiet (turned.NotEnabled reason.CoreOff) most q x = x
    answers_quiet (turned.NotEnabled reason.Nothing) most q x = x
    answers_quiet (turned.NotEnabled reason.NoOrder) most q x = x
    answers_quiet (turned.NotEnabled reason.NotPending) most q x = x
    answers_quiet (turned.NotEnabled (reason.NotRouted route)) most q x = x
    answers_quiet (turned.NotEnabled (reason.NotHere b)) most q x = x
    answers_quiet (turned.NotEnabled reason.NotWaiting) most q x = x
    answers_quiet (turned.NotEnabled reason.StillWaits) most q x = x
    answers_quiet (turned.NotEnabled (reason.NoAck c)) most q x = x
    answers_quiet (turned.NotEnabled (reason.RaisesFirst n)) most q x = x
    answers_quiet (turned.NotEnabled reason.CommandFirst) most q x = x
    answers_quiet (turned.NotEnabled reason.NoRaise) most q x = x
    answers_quiet (turned.NotEnabled reason.ScriptEnded) most q x = x
    answers_quiet (turned.NotEnabled (reason.Few seen n)) most q x = absurd q

  module _ (k l : Passing D) (h i : ScriptHand) (r : Turned) where
    -- the polls are counted after an action that is about none
    pub counted : Acts st k l h i action.Script r → Counts st k l h (record i { polls = polls_then action.Script i.polls r }) action.Script r
    counted x = record {
      hand = polled_hand l i (polls_then action.Script i.polls r) x.hand (few_then r i.polls x.quiet x.hand.polls);
      on = x.on;
      turn = x.turn;
      same = x.same;
      polls = ap (λ n. polls_then action.Script n r) x.polls;
    }

    pub polled : (most : ℕ) → IsQuiet r → Counts st k l h i action.Script r → Polls st k l h i most r
    polled most quiet x = record {
      hand = x.hand;
      on = x.on;
      turn = answers_quiet k l h i r most quiet x.turn;
      same = x.same;
      polls = x.polls;
    }

  -- the turn of an await ends with its entry
  pub counts_did : (k l : Passing D) (h i : ScriptHand) (e : Entry) (t : Ticket) → Enters st k l i.script [] h.polls action.Script e t.0 → i.polls ≡ 0
      → Counts st k l h i action.Script (turned.Did e t)
  counts_did k l h i e t s none = record {
    hand = ended st l i s.holds (omega (arith, none));
    on = s.goes;
    turn = s.made;
    same = λ no. absurd no;
    polls = none;
  }

  -- with the reason why there is none
  pub counts_none : (k l : Passing D) (h i : ScriptHand) (why : Reason) → Reaches st k l h.script [] k.refused → i.script ≡ h.script
      → core_step (state_after st l.seen) h.polls actor.Script action.Script ≡ not_enabled why → i.polls ≡ polls_at why h.polls → i.polls ≤ 1000000000
      → Counts st k l h i action.Script (turned.NotEnabled why)
  counts_none k l h i why s same turn polls few = record {
    hand = ended st l i (subst (λ t. HoldsBeside st l t []) (sym same) s.holds) few;
    on = s.goes;
    turn = fails st k l h.script [] h.polls action.Script why s turn;
    same = λ no. same;
    polls = polls;
  }

  -- or with its console, which another actor had
  pub counts_busy : (k l : Passing D) (h : ScriptHand) (b : Busy) → Acts st k l h h action.Script (turned.Busy b) → Counts st k l h h action.Script (turned.Busy b)
  counts_busy k l h b x = record { hand = x.hand; on = x.on; turn = x.turn; same = x.same; polls = refl }

  -- a turn that went on from a later pass
  pub counts_through : (k l m : Passing D) (h i : ScriptHand) (ns : List Name) (a : Action) (r : Turned) → Reaches st k l h.script ns k.refused
      → Counts st l m h i a r → Counts st k m h i a r
  counts_through k l m h i ns a r s x = record {
    hand = x.hand;
    on = goes_through k l m s.goes x.on;
    turn = answers_through st k l m h.script ns h.polls a r s x.turn;
    same = x.same;
    polls = x.polls;
  }

  module _ (k : Passing D) (t : Script) (ns : List Name) (h : HoldsBeside st k t ns) (b : ℕ) (ws : List ℕ) (there : Has st k (a_console b) (console ws)) where
    pub makes_await : (u : Script) (polls : ℕ) (e : Entry) → IsAwaited b t u ws polls e → Makes st k polls action.Script (script_becomes u ∷ []) e
    makes_await u polls e is log on =
        let s = state_after st log in
        let same = kept_script st k log on t h.stands in
        awaited_step s u e polls (λ f m. is s same (kept_console st k log on b ws there) f (ap f (sym same) ∙ m))

    -- the entry of an await with enough words
    pub met_what : (u : Script) (polls : ℕ) (e : Entry) (c : BlockNo) (words limit : ℕ) → c.0 ≡ b → IsAwaited b t u ws polls e → GoesOn t (line.Await c words limit)
        → words ≤ length ws → e ≡ by_script (what.Met t.place c (length ws))
    met_what u polls e c words limit same is goes enough =
        let x = by_script (what.Met t.place c (length ws)) in
        let other = subst (λ n. IsAwaited n t (at_next_command t) ws polls x) same (met_is t (at_next_command t) ws polls c words limit goes x enough refl refl) in
        let one = makes_await u polls e is k.seen (sees_now st k) in
        let two = makes_await (at_next_command t) polls x other k.seen (sees_now st k) in
        let equal : did (script_becomes u ∷ []) e ≡ did (script_becomes (at_next_command t) ∷ []) x = sym one ∙ two in
        cc

    -- a poll finds too few words
    pub polls_none : (polls : ℕ) (why : Reason) → IsPoll b t ws polls why → core_step (state_after st k.seen) polls actor.Script action.Script ≡ not_enabled why
    polls_none polls why is =
        let s = state_after st k.seen in
        let same = kept_script st k k.seen (sees_now st k) t h.stands in
        polled_step s why polls (λ f m. is s same (kept_console st k k.seen (sees_now st k) b ws there) f (ap f (sym same) ∙ m))

  module _ (k q : Passing D) (h : ScriptHand) (b : BlockNo) (words limit most seen n : ℕ) (goes : GoesOn h.script (line.Await b words limit)) where
    -- many polls found too few words
    pub found_few : Reaches st k q h.script [] k.refused → (ws : List ℕ) → slice_get (state_after st q.seen).consoles b.0 ≡ Some ws → seen ≡ length ws → seen < words
        → n ≡ h.polls + min most (limit - 1 - h.polls) → h.polls ≤ 1000000000 → limit ≤ 1000000000
        → Polls st k q h (record h { polls = n }) most (turned.NotEnabled (reason.Few seen n))
    found_few s ws there is fewer count few top =
        let least = min-le_right most (limit - 1 - h.polls) in
        let state = state_after st q.seen in
        let same = kept_script st q q.seen (sees_now st q) h.script s.holds.stands in
        record {
          hand = ended st q (record h { polls = n }) s.holds (omega (arith, least, count, few, top));
          on = s.goes;
          turn = record {
            block = b;
            words = words;
            limit = limit;
            stands = goes;
            others = s.mine;
            refused = s.refused;
            console = (ws, there, is, fewer);
            made = count;
            told = refl;
            each = λ j from below.
                polled_step state (reason.Few (length ws) (j + 1)) j
                (λ f m. poll_is h.script h.script ws j b words limit goes (subst (λ w. w < words) is fewer) (omega (arith, from, below, least, count))
                state same there f (ap f (sym same) ∙ m))
                ∙ ap (λ w. not_enabled (reason.Few w (j + 1))) (sym is);
          };
          same = λ no. refl;
          polls = refl;
        }
