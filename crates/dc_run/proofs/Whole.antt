-- A whole run: the script is answered at a rest, and all is over.
use Rattle.std.proofs.Common.{◌≡◌, ◌≢◌, ℕ, zero, suc, ◌+◌, ◌<◌, ◌==◌, ◌||◌, Bool, true, false, true≢false, List, [], ◌∷◌, ◌++◌, length}
use Rattle.std.proofs.Common.{sym, refl, ap, ◌∙◌, subst, arith}
use Rattle.std.proofs.Common.{eq-eqb, ne_eqb}
use mathlib.Core.List.{IsPrefix}
use Rattle.dc_base.specs.declared.actions.Actor.TheVariants as actor
use Rattle.dc_base.specs.declared.entries.Entry.{Entry}
use Rattle.dc_base.specs.declared.entries.What.TheVariants as what
use Rattle.dc_base.specs.Histories.{IsLawfulHistory, actor_number, next}
use Rattle.dc_base.specs.Objects.{HasSizes}
use Rattle.dc_base.specs.PlayText.{AreCoresAtRest, IsAnswered}
use Rattle.dc_base.specs.States.{State, Settings}
use Rattle.dc_crew.specs.declared.ends.Ended.{Ended}
use Rattle.dc_crew.specs.declared.seats.Seat.{Seat}
use Rattle.dc_crew.specs.Crews.{AreNumbered, IsCrew}
use Rattle.dc_crew.specs.Ended.{HasPart, HasEnded}
use Rattle.dc_crew.specs.Machines.{Staged}
use Rattle.dc_crew.specs.Seats.{IsSeat}
use Rattle.dc_hands.specs.Machines.{state_after}
use Rattle.dc_logs.specs.Rests.{AllOf, QuietBy, places}
use Rattle.dc_logs.proofs.ActorLogs.{log_count}
use Rattle.dc_logs.proofs.Beginnings.{prefix_same, prefix_whole}
use Rattle.dc_logs.proofs.Counts.{counted, counted_all}
use Rattle.dc_logs.proofs.RestLaws.{rests_held}
use Rattle.dc_rests.specs.Resting.{entries_in_logs, IsRest}
use Rattle.dc_rounds.specs.Working.{IsQuietAt}
use Rattle.dc_runs.specs.Awaits.{AreGivenUpAtRest}
use Rattle.dc_runs.specs.Tries.{IsTriedOut}
use Rattle.dc_stage.specs.History.{Log}
use Rattle.dc_stage.specs.Numbers.{has, IsApart}
use Rattle.dc_run.specs.Rested.{needs_rest, IsTriedAfter, HasSeenRests, HaveSeenRests}
use Rattle.dc_run.proofs.RestLaws.{all_both}
use Rattle.dc_run.specs.Running.{HasRun}

abbrev actors : List Seat → List ℕ
actors [] = []
actors (s ∷ ss) = s.pass.actor ∷ actors ss

or_false : (b c : Bool) → (b || c) ≡ false → (b ≡ false) × (c ≡ false)
or_false true c h = absurd (true≢false h)
or_false false c h = (refl, h)

not_there : (a : ℕ) (ss : List Seat) → has a (actors ss) ≡ false → AllOf (λ (s : Seat). s.pass.actor ≢ a) ss
not_there a [] h = tt
not_there a (s ∷ ss) h =
    let p = or_false (a == s.pass.actor) (has a (actors ss)) h in
    ((λ e. true≢false (sym (eq-eqb a s.pass.actor (sym e)) ∙ p.0)), not_there a ss p.1)

-- a number below those of the seats and of the script is none of theirs
below : (a c : ℕ) (ss : List Seat) (script : Seat) → a < c → AreNumbered c ss → script.pass.actor ≡ c + length ss → has a (actors (ss ++ script ∷ [])) ≡ false
below a c [] script less n e = ap (λ b. b || false) (ne_eqb a script.pass.actor (λ q. absurd (omega (arith, q, e, less))))
below a c (s ∷ ss) script less n e =
    ap (λ b. b || has a (actors (ss ++ script ∷ []))) (ne_eqb a s.pass.actor (λ q. absurd (let m = n.0 in omega (arith, q, m, less))))
    ∙ below a (suc c) ss script (omega (arith, less)) n.1 (omega (arith, e))

-- so no two have the same
apart : (c : ℕ) (ss : List Seat) (script : Seat) → AreNumbered c ss → script.pass.actor ≡ c + length ss → IsApart (actors (ss ++ script ∷ []))
apart c [] script n e = (refl, tt)
apart c (s ∷ ss) script n e =
    let next : script.pass.actor ≡ suc c + length ss = omega (arith, e) in
    (ap (λ a. has a (actors (ss ++ script ∷ []))) n.0 ∙ below c (suc c) ss script (omega arith) n.1 next, apart (suc c) ss script n.1 next)

-- what is so of each seat's number is so of each core
each_core : (Q : ℕ → Type 0) (c : ℕ) (ss : List Seat) → AreNumbered c ss → AllOf (λ (s : Seat). Q s.pass.actor) ss → (j : ℕ) → j < length ss → Q (c + j)
each_core Q c [] n a j less = absurd (omega (arith, less))
each_core Q c (s ∷ ss) n a zero less = subst Q (n.0 ∙ omega arith) a.0
each_core Q c (s ∷ ss) n a (suc j) less = subst Q (omega arith) (each_core Q (suc c) ss n.1 a.1 j (omega (arith, less)))

all_last : (P : Seat → Type 0) (xs : List Seat) (x : Seat) → AllOf P xs → P x → AllOf P (xs ++ x ∷ [])
all_last P [] x a p = (p, tt)
all_last P (y ∷ xs) x a p = (a.0, all_last P xs x a.1 p)

all_before : (P : Seat → Type 0) (xs : List Seat) (x : Seat) → AllOf P (xs ++ x ∷ []) → AllOf P xs × P x
all_before P [] x a = (tt, a.0)
all_before P (y ∷ xs) x a = let b = all_before P xs x a.1 in ((a.0, b.0), b.1)

-- the actor of an entry in a lawful history is the one whose number stands beside it
actor_is : (t : Settings) (s : State) (before more : Log Entry) (who : ℕ) (e : Entry) → IsLawfulHistory t s (before ++ (who, e) ∷ more)
    → actor_number t e.actor ≡ who
actor_is t s [] more who e l = l.0.0
actor_is t s (x ∷ before) more who e l = actor_is t (next s x.1) before more who e l.1

-- the logs have as many entries as the actors made
logs_counted : (st : Staged) (h : Log Entry) (ss : List Seat) → AllOf (IsSeat st) ss → AllOf (HasPart h) ss → counted (actors ss) h ≡ entries_in_logs ss
logs_counted st h [] a p = refl
logs_counted st h (s ∷ ss) a p =
    let m = logs_counted st h ss a.1 p.1 in
    let k = log_count s.pass.actor s.pass.seen s.log.entries a.0.log in
    let q = ap length p.0.1 in
    omega (arith, m, k, q)

entries_with : (ss : List Seat) (script : Seat) → entries_in_logs (ss ++ script ∷ []) ≡ entries_in_logs ss + length script.log.entries
entries_with [] script = omega arith
entries_with (s ∷ ss) script = let m = entries_with ss script in omega (arith, m)

module _ (st : Staged) (seats : List Seat) (script : Seat) (crew : IsCrew st seats script) (r : Ended) (end : HasEnded st (seats ++ script ∷ []) r) (n : ℕ)
    (rest : IsRest st n seats script) where
  -- the history is as long as the logs
  all_length : length end.history ≡ n
  all_length =
      let is : script.pass.actor ≡ 0 + length seats = crew.script_is.1 ∙ (sym crew.count ∙ omega arith) in
      let all = counted_all (actors (seats ++ script ∷ [])) end.history (apart 0 seats script crew.numbers is)
      (λ a none. end.others a (not_there a (seats ++ script ∷ []) none)) in
      let logs = logs_counted st end.history (seats ++ script ∷ []) (all_last (IsSeat st) seats script crew.cores crew.script_is.0) end.parts in
      let sum = entries_with seats script in
      let is_rest = rest.all in
      omega (arith, all, logs, sum, is_rest)

  -- who has seen so much has seen all
  saw_all : (s : Seat) → HasPart end.history s → length s.pass.seen ≡ n → s.pass.seen ≡ end.history
  saw_all s part is = prefix_whole s.pass.seen end.history part.0 (is ∙ sym all_length)

  cores_have : AllOf (HasPart end.history) seats
  cores_have = (all_before (HasPart end.history) seats script end.parts).0

  cores_saw : AllOf (λ (s : Seat). s.pass.seen ≡ end.history) seats
  cores_saw =
      all_both (HasPart end.history) (λ (s : Seat). IsQuietAt st n s.pass s.pass.actor) (λ (s : Seat). s.pass.seen ≡ end.history)
      (λ s part quiet. saw_all s part quiet.length_is) seats cores_have rest.cores

  script_saw : script.pass.seen ≡ end.history
  script_saw = saw_all script (all_before (HasPart end.history) seats script end.parts).1 rest.seen

  -- where so many cores there are, what is so of each seat's is so of each
  each_of : (Q : ℕ → Type 0) (s : State) → HasSizes st.scene.settings s → AllOf (λ (z : Seat). Q z.pass.actor) seats → (c : ℕ) → c < length s.cores → Q c
  each_of Q s sizes a c less =
      subst Q (omega arith) (each_core Q 0 seats crew.numbers a c (let m = sizes.cores in let k = crew.count in omega (arith, m, k, less)))

  module _ (seen : HaveSeenRests st script.log seats) where
    -- each core could do nothing at the end
    tried_out : AllOf (λ (s : Seat). IsTriedAfter st s.pass.actor end.history) seats
    tried_out =
        all_both (λ (s : Seat). s.pass.seen ≡ end.history) (λ (s : Seat). IsQuietAt st n s.pass s.pass.actor)
        (λ (s : Seat). IsTriedAfter st s.pass.actor end.history)
        (λ s saw quiet. subst (IsTriedAfter st s.pass.actor) saw quiet.tried) seats cores_saw rest.cores

    -- and before each entry that needs a rest
    tried_before : (before more : Log Entry) (e : Entry) → end.history ≡ before ++ (script.pass.actor, e) ∷ more → needs_rest e ≡ true
        → AllOf (λ (s : Seat). IsTriedAfter st s.pass.actor before) seats
    tried_before before more e is needs =
        all_both (λ (s : Seat). s.pass.seen ≡ end.history) (HasSeenRests st script.log.entries) (λ (s : Seat). IsTriedAfter st s.pass.actor before)
        (λ s saw rests. rests_held needs_rest (IsTriedAfter st s.pass.actor) script.pass.actor script.pass.seen s.pass.seen
        (subst (λ z. IsPrefix z script.pass.seen) (script_saw ∙ sym saw) (prefix_same script.pass.seen))
        (subst (λ ms. AllOf (λ t. QuietBy (IsTriedAfter st s.pass.actor) t s.pass.seen) (places needs_rest ms)) crew.script_is.0.log rests)
        before more e (script_saw ∙ is) needs) seats cores_saw seen

    module _ (rests : (s : State) → ((c : ℕ) → c < length s.cores → IsTriedOut s c) → AreCoresAtRest s)
        (sizes : (log : Log Entry) → HasSizes st.scene.settings (state_after st log)) where
      cores_rest : (log : Log Entry) → AllOf (λ (s : Seat). IsTriedAfter st s.pass.actor log) seats → AreCoresAtRest (state_after st log)
      cores_rest log a =
          rests (state_after st log) (each_of (IsTriedOut (state_after st log)) (state_after st log) (sizes log) a)

      given_up : AreGivenUpAtRest st.scene.start end.history
      given_up before more who q b words is =
          let e : Entry = record { actor = actor.Script; what = what.Unmet q b words } in
          let by = actor_is st.scene.settings st.scene.start before more who e
          (subst (λ h. IsLawfulHistory st.scene.settings st.scene.start h) is end.lawful) in
          cores_rest before (tried_before before more e (is ∙ ap (λ a. before ++ (a, e) ∷ more) (sym by ∙ sym crew.script_is.1)) refl)

      pub has_run : IsAnswered (state_after st script.pass.seen) → HasRun st r
      has_run answered = record {
        history = end.history;
        lawful = end.lawful;
        entries = end.entries;
        objects_are = end.objects_are;
        answered = subst (λ h. IsAnswered (state_after st h)) script_saw answered;
        at_rest = cores_rest end.history tried_out;
        given_up = given_up;
      }
