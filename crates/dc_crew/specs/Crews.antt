-- The seats of all actors of a stage.
use Rattle.std.specs.Prelude.{◌≡◌, ℕ, suc, ◌+◌, List, [], ◌∷◌, length, true}
use Rattle.dc_logs.specs.Rests.{AllOf}
use Rattle.dc_crew.specs.declared.seats.Seat.{Seat}
use Rattle.dc_crew.specs.Machines.{Staged}
use Rattle.dc_crew.specs.Seats.{IsSeat, IsScriptSeat}

-- the seats are those of the actors from number c on, one after another
abbrev pub AreNumbered : ℕ → List Seat → Type 0
AreNumbered c [] = Unit {0}
AreNumbered c (s ∷ ss) = (s.pass.actor ≡ c) × AreNumbered (suc c) ss

-- the first of the seats has the first pass, which made n passes, itself counted, and to which none was joined
abbrev pub IsLed : ℕ → List Seat → Type 0
IsLed n [] = ⊥
IsLed n (s ∷ ss) = (s.pass.first ≡ true) × (s.pass.made ≡ n) × (s.pass.joined ≡ [])

-- there is a seat for each core, in order, and one for the script, and no other pass
pub record IsCrew (st : Staged) (seats : List Seat) (script : Seat) : Type 0 where
  pub count : length seats ≡ st.scene.settings.cores
  pub numbers : AreNumbered 0 seats
  pub cores : AllOf (IsSeat st) seats
  pub script_is : IsScriptSeat st script
  pub led : IsLed (length seats + 1) seats

-- the seat is as it was made: nothing was seen, and the log has room for so many entries
pub record IsNew (room : ℕ) (s : Seat) : Type 0 where
  pub seen : s.pass.seen ≡ []
  pub refused : s.pass.refused ≡ []
  pub log : s.log ≡ record { entries = []; room = room }
