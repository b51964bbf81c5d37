-- Cores that come to rest, and logs that are full.
use Rattle.std.specs.Prelude.{◌≡◌, ◌⊎◌, ℕ, List, [], ◌∷◌, length}
use Rattle.dc_logs.specs.Recorded.{Recorded}
use Rattle.dc_rounds.specs.Working.{IsQuietAt}
use Rattle.dc_crew.specs.declared.seats.Seat.{Seat}
use Rattle.dc_crew.specs.Machines.{Staged}

-- the core of this seat has seen n entries, and can do nothing after them
abbrev pub IsQuietSeat : Staged → ℕ → Seat → Type 0
IsQuietSeat st n s = IsQuietAt st n s.pass s.pass.actor

-- the log has no room for one more entry
abbrev pub IsFull : Recorded → Type 0
IsFull m = length m.entries ≡ m.room

-- one of these seats has a full log
abbrev pub HasFull : List Seat → Type 0
HasFull [] = ⊥
HasFull (s ∷ ss) = IsFull s.log ⊎ HasFull ss
