use Rattle.std.proofs.Common.{◌≡◌, ◌≤◌, drop}
use Rattle.dc_objects.specs.Scripts.{raise_place_from}
use Rattle.dc_objects.proofs.places.raise_at.Given as goal

-- no raise stands from the first place on so far
abbrev pub invariant-loop-at : goal.invariant-loop-at
invariant-loop-at l = record {
  told : raise_place_from l.from l.at (drop l.at l.lines) ≡ raise_place_from l.from 0 l.lines;
  past : l.from ≤ l.at;
}
