-- The end of a run.
use Rattle.std.proofs.Common.{◌≡◌, ◌≢◌, ℕ, suc, ◌+◌, ◌||◌, true, false, List, [], ◌∷◌, ◌++◌, length, reverse}
use Rattle.std.proofs.Common.{sym, refl, ap, ◌∙◌, subst, arith, ne_eqb, length-append}
use Rattle.std.proofs.lemmas.List.{length-map, length-reverse, reverse-append}
use Rattle.std.specs.Global.{Vec}
use mathlib.Core.List.{IsPrefix}
use Rattle.dc_base.specs.declared.entries.Entry.{Entry}
use Rattle.dc_journal.specs.declared.merging.Logged.{Logged}
use Rattle.dc_logs.specs.Logs.{EachLog, AreLogs}
use Rattle.dc_logs.specs.Marks.{IsLogOf}
use Rattle.dc_logs.specs.Rests.{AllOf}
use Rattle.dc_logs.proofs.ActorLogs.{log_later}
use Rattle.dc_stage.specs.Numbers.{has}
use Rattle.dc_stage.specs.History.{Meaning, Log, own}
use Rattle.dc_stage.specs.Pasts.{EachOwn, actors_of}
use Rattle.dc_stage.specs.Passes.{past_of, passes_of}
use Rattle.dc_stage.specs.Calls.{SeesAll}
use Rattle.dc_crew.specs.declared.seats.Seat.{Seat}
use Rattle.dc_crew.specs.Machines.{Staged, Passing}
use Rattle.dc_crew.specs.Seats.{IsSeat}
use Rattle.dc_crew.specs.Crews.{IsLed, IsCrew}
use Rattle.dc_crew.specs.Joined.{pasts_of, HasJoined}
use Rattle.dc_crew.specs.Ended.{HasPart}
use Rattle.dc_crew.proofs.Laters.{all_snoc}

-- the first seat of a crew, and the others
pub record IsParted (st : Staged) (s : Seat) (others : List Seat) : Type 0 where
  pub seat : IsSeat st s
  pub first : s.pass.first ≡ true
  pub joined : s.pass.joined ≡ []
  pub made : s.pass.made ≡ length others + 1
  pub rest : AllOf (IsSeat st) others

pub crew_parts : (st : Staged) (seats : List Seat) (script s : Seat) (rest : List Seat) → seats ≡ s ∷ rest → IsCrew st seats script
    → IsParted st s (rest ++ script ∷ [])
crew_parts st seats script s rest is crew =
    let led : IsLed (length seats + 1) (s ∷ rest) = subst (λ xs. IsLed (length seats + 1) xs) is crew.led in
    let all : AllOf (IsSeat st) (s ∷ rest) = subst (λ xs. AllOf (IsSeat st) xs) is crew.cores in
    record {
      seat = all.0;
      first = led.0;
      joined = led.2;
      made = led.1 ∙ (let n = ap length is in let m = length-append rest (script ∷ []) in omega (arith, n, m));
      rest = all_snoc (IsSeat st) rest script all.1 crew.script_is.0;
    }

-- each seat has its part of a history with just its own entries
parts_of : (h : Log Entry) (ss : List Seat) → EachOwn (pasts_of ss) h → AllOf (λ (s : Seat). IsPrefix s.pass.seen h) ss → AllOf (HasPart h) ss
parts_of h [] e a = tt
parts_of h (s ∷ ss) e a = ((a.0, e.0), parts_of h ss e.1 a.1)

not_among : (a : ℕ) (ss : List Seat) → AllOf (λ (s : Seat). s.pass.actor ≢ a) ss → has a (actors_of (pasts_of ss)) ≡ false
not_among a [] n = refl
not_among a (s ∷ ss) n = ap (λ b. b || has a (actors_of (pasts_of ss))) (ne_eqb a s.pass.actor (λ e. n.0 (sym e))) ∙ not_among a ss n.1

each_length : (h : Log Entry) (ss : List Seat) (logs : List (Vec Logged)) → EachLog h (pasts_of ss) logs → length logs ≡ length ss
each_length h [] [] e = refl
each_length h [] (g ∷ gs) e = absurd e
each_length h (s ∷ ss) [] e = absurd e
each_length h (s ∷ ss) (g ∷ gs) e = ap suc (each_length h ss gs e.1)

-- what the first seat's pass has become, where the others were joined to it
module _ (l : Passing) (s : Seat) (others : List Seat) (logs : List (Vec Logged)) (h : HasJoined s.pass l others logs) where
  pub logs_length : length logs ≡ length others
  logs_length = sym (length-reverse logs) ∙ each_length l.seen others (reverse logs) h.logs_are

  -- the passes of the stage are those of the seats
  passes_are : actors_of (passes_of l) ≡ actors_of (pasts_of (s ∷ others))
  passes_are = ap (λ a. a ∷ actors_of l.joined) h.actor ∙ ap (λ xs. s.pass.actor ∷ actors_of xs) h.joined

  pub is_alone : s.pass.made ≡ length others + 1 → l.made ≡ length l.joined + 1
  is_alone e = h.made ∙ (e ∙ ap (λ n. n + 1) (sym (ap length h.joined ∙ length-map others (λ (z : Seat). past_of z.pass))))

  pub all_parts : AllOf (HasPart l.seen) (s ∷ others)
  all_parts = ((h.sees, h.own_same), parts_of l.seen others h.each h.sees_theirs)

  module _ {Wh St : Type 0} (p : Meaning Wh St Entry) (all : SeesAll p l) where
    pub no_others : (a : ℕ) → AllOf (λ (z : Seat). z.pass.actor ≢ a) (s ∷ others) → own a l.seen ≡ []
    no_others a n = all.others a (ap (has a) passes_are ∙ not_among a (s ∷ others) n)

    -- the logs of all passes, the first one's last, the other way round
    pub logs_of : (st : Staged) (log : Vec Logged) (gs : List (Vec Logged)) → IsSeat st s → log.items ≡ s.log.entries → gs ≡ reverse (logs ++ log ∷ [])
        → AreLogs l.seen (passes_of l) gs
    logs_of st log gs seat entries order =
        let mine : IsLogOf s.pass.actor l.seen log.items =
        subst (λ es. IsLogOf s.pass.actor l.seen es) (sym entries) (log_later s.pass.actor s.pass.seen l.seen s.log.entries h.sees h.own_same seat.log) in
        let first : IsLogOf l.actor l.seen log.items = subst (λ a. IsLogOf a l.seen log.items) (sym h.actor) mine in
        let rest : EachLog l.seen l.joined (reverse logs) = subst (λ xs. EachLog l.seen xs (reverse logs)) (sym h.joined) h.logs_are in
        record {
          each = subst (λ g. EachLog l.seen (passes_of l) g) (sym (order ∙ reverse-append logs (log ∷ []))) (first, rest);
          others = all.others;
          apart = all.apart;
        }
