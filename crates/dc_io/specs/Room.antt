-- Bytes taken into room that was reserved for them.
use Rattle.std.specs.Prelude.{ℕ, ◌+◌, ◌==◌, ◌||◌, nat_lt, List, ◌++◌, length, if◌then◌else◌, Bool}
use Rattle.std.specs.List.{list_any}
use Rattle.dc_io.specs.Counts.{counted}

-- the bytes taken, the room, the numbers of the puts that fail, and how many puts were made and failed
pub record FailingRoom : Type 0 where
  pub taken : List ℕ
  pub room : ℕ
  pub failing : List ℕ
  pub calls : ℕ
  pub faults : ℕ

-- the room is short for the piece, or the next put is listed
abbrev pub put_fails : FailingRoom → List ℕ → Bool
put_fails s piece = nat_lt s.room (length s.taken + length piece) || list_any (λ n. n == counted s.calls) s.failing

-- what the next put of the piece leaves
abbrev pub after_put : FailingRoom → List ℕ → FailingRoom
after_put s piece = record s {
  taken = if put_fails s piece then s.taken else s.taken ++ piece;
  calls = counted s.calls;
  faults = if put_fails s piece then counted s.faults else s.faults;
}
