-- What is known of a core whose thread is to be started.
use Rattle.std.specs.Prelude.{◌≡◌}
use Rattle.dc_crew.specs.declared.seats.Seat.{Seat}
use Rattle.dc_crew.specs.declared.threads.Started.{Started}
use Rattle.dc_crew.specs.declared.threads.Started.TheVariants as started
use Rattle.dc_crew.specs.Machines.{Staged}
use Rattle.dc_crew.specs.Laters.{IsLaterSeat}

-- its thread promises to bring the seat back, or the seat is here
abbrev pub IsStarted : Staged → Seat → Started → Type 0
IsStarted st s (started.Away h) = (h.promise.stage.value ≡ st) × (h.promise.seat.value ≡ s)
IsStarted st s (started.Here t) = IsLaterSeat st s t
