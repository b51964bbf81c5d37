-- A run whose seats are all at home.
use Rattle.std.specs.Prelude.{◌≡◌, ◌≤◌, ◌<◌, ℕ, [], length, vec_capacity}
use Rattle.dc_base.specs.Limits.{most_polls}
use Rattle.dc_base.specs.PlayText.{IsAnswered}
use Rattle.dc_crew.specs.declared.crews.Home.{Home}
use Rattle.dc_crew.specs.Crews.{IsCrew}
use Rattle.dc_crew.specs.Machines.{Staged}
use Rattle.dc_hands.specs.Machines.{state_after}
use Rattle.dc_rests.specs.Resting.{IsRest}
use Rattle.dc_run.specs.Rested.{HaveSeenRests}

-- The seats are a crew, with room for the threads, and the cores have seen the rests before the entries of the script that need one.
pub record IsGoing (st : Staged) (h : Home) : Type 0 where
  pub crew : IsCrew st h.seats.items h.script
  pub polls : h.polls ≤ most_polls
  pub room : (h.room.items ≡ []) × (length h.seats.items ≤ vec_capacity h.room)
  pub rests : HaveSeenRests st h.script.log h.seats.items

-- It is at a rest after n entries, and the script's log has room.
pub record IsAtRest (st : Staged) (h : Home) (n : ℕ) : Type 0 where
  pub going : IsGoing st h
  pub rest : IsRest st n h.seats.items h.script
  pub room : length h.script.log.entries < h.script.log.room

-- It is at a rest, and the script is answered.
pub record IsOver (st : Staged) (h : Home) : Type 0 where
  pub going : IsGoing st h
  pub entries : ℕ
  pub rest : IsRest st entries h.seats.items h.script
  pub answered : IsAnswered (state_after st h.script.pass.seen)
