-- A run goes on: its seats come home, rest, and the script acts.
use Rattle.std.proofs.Common.{◌≡◌, ◌+◌, ◌≤◌, ℕ, List, [], length, vec_capacity, sym, ap, ◌∙◌, subst, arith}
use Rattle.dc_base.specs.Limits.{most_polls}
use Rattle.dc_base.specs.PlayText.{IsAnswered}
use Rattle.dc_crew.specs.declared.crews.Home.{Home}
use Rattle.dc_crew.specs.declared.seats.Seat.{Seat}
use Rattle.dc_crew.specs.Crews.{IsCrew}
use Rattle.dc_crew.specs.Laters.{IsLaterSeat, Pairs}
use Rattle.dc_crew.specs.Machines.{Staged}
use Rattle.dc_crew.specs.ScriptWorks.{GrowsQuietly}
use Rattle.dc_hands.specs.Machines.{state_after}
use Rattle.dc_logs.specs.Recorded.{Recorded}
use Rattle.dc_rests.specs.Resting.{entries_in_logs, GrowsAt}
use Rattle.dc_run.specs.Going.{IsGoing, IsAtRest, IsOver}
use Rattle.dc_run.specs.Rested.{HaveSeenRests}
use Rattle.dc_run.proofs.RestLaws.{seen_later, seen_quietly, seen_at}

module _ (st : Staged) where
  -- the crew with the script's seat later
  pub crew_with : (seats : List Seat) (s t : Seat) → IsLaterSeat st s t → IsCrew st seats s → IsCrew st seats t
  crew_with seats s t l crew = record {
    count = crew.count;
    numbers = crew.numbers;
    cores = crew.cores;
    script_is = (l.seat, l.pass.actor ∙ crew.script_is.1);
    led = crew.led;
  }

  -- the seats h came home as g, and were turned until they were r
  pub still_going : (h g r : Home) → IsGoing st h → GrowsQuietly h.script.log g.script.log → Pairs (IsLaterSeat st) h.seats.items g.seats.items
      → Pairs (IsLaterSeat st) g.seats.items r.seats.items → r.script.log ≡ g.script.log → IsCrew st r.seats.items r.script → r.polls ≤ most_polls
      → (r.room.items ≡ []) × (vec_capacity r.room ≡ vec_capacity h.room) → IsGoing st r
  still_going h g r go log home turned same crew polls room = record {
    crew = crew;
    polls = polls;
    room = (room.0, (let a = go.room.1 in let b = room.1 in let m = go.crew.count in let n = crew.count in omega (arith, a, b, m, n)));
    rests = subst (λ m. HaveSeenRests st m r.seats.items) (sym same)
        (seen_later st g.script.log g.seats.items r.seats.items turned
        (seen_later st g.script.log h.seats.items g.seats.items home (seen_quietly st h.script.log g.script.log h.seats.items log go.rests)));
  }

  -- the seats h after the script acted
  abbrev pub acted : Home → Seat → ℕ → Home
  acted h t polls = record { script = t; polls = polls; seats = h.seats; room = h.room }

  pub going_after : (h : Home) (n : ℕ) (t : Seat) (polls : ℕ) → IsAtRest st h n → IsLaterSeat st h.script t → GrowsAt n h.script.log t.log → polls ≤ most_polls
      → IsGoing st (acted h t polls)
  going_after h n t polls at later log few = record {
    crew = crew_with h.seats.items h.script t later at.going.crew;
    polls = few;
    room = at.going.room;
    rests = seen_at st n h.script.log t.log h.seats.items at.rest.cores log at.going.rests;
  }

  -- nothing was left to do at the rest h
  pub over_after : (h : Home) (n : ℕ) (t : Seat) (polls : ℕ) → IsAtRest st h n → IsGoing st (acted h t polls) → t.log ≡ h.script.log → length t.pass.seen ≡ n
      → IsAnswered (state_after st t.pass.seen) → IsOver st (acted h t polls)
  over_after h n t polls at going log seen answered = record {
    going = going;
    entries = n;
    rest = record { all = ap (λ (m : Recorded). entries_in_logs h.seats.items + length m.entries) log ∙ at.rest.all; cores = at.rest.cores; seen = seen };
    answered = answered;
  }
