-- A core of a run while it has its objects in hand.
use Rattle.std.specs.Prelude.{◌≡◌}
use Rattle.dc_rounds.specs.Working.{WorksCore}
use Rattle.dc_stage.specs.Passes.{IsOf}
use Rattle.dc_crew.specs.declared.at_work.CoreAtWork.{CoreAtWork}
use Rattle.dc_crew.specs.declared.seats.Seat.{Seat}
use Rattle.dc_crew.specs.Laters.{IsLater}
use Rattle.dc_crew.specs.Machines.{Staged}

-- The core whose seat this was is at work: its pass is of the stage and has seen more, its objects are in hand, and its log has as much room.
pub record IsAtWork (st : Staged) (s : Seat) (w : CoreAtWork) : Type 0 where
  pub pass : IsLater s.pass w.pass
  pub of : IsOf w.pass st
  pub work : WorksCore st w.pass w.log w.hand
  pub room : w.log.room ≡ s.log.room
