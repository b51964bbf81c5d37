-- What becomes of passes and seats while their actors work.
use Rattle.std.specs.Prelude.{◌≡◌, List, [], ◌∷◌}
use mathlib.Core.List.{IsPrefix}
use Rattle.dc_stage.specs.Passes.{Known}
use Rattle.dc_crew.specs.declared.seats.Seat.{Seat}
use Rattle.dc_crew.specs.Machines.{Staged}
use Rattle.dc_crew.specs.Seats.{IsSeat}

-- the same pass, which has seen more
pub record IsLater {Sc En : Type 0} (k l : Known Sc En) : Type 0 where
  pub table : l.table_id ≡ k.table_id
  pub scene : l.scene ≡ k.scene
  pub actor : l.actor ≡ k.actor
  pub first : l.first ≡ k.first
  pub made : l.made ≡ k.made
  pub joined : l.joined ≡ k.joined
  pub sees : IsPrefix k.seen l.seen

-- the same seat, whose pass has seen more, with a log of as much room
pub record IsLaterSeat (st : Staged) (s t : Seat) : Type 0 where
  pub pass : IsLater s.pass t.pass
  pub seat : IsSeat st t
  pub room : t.log.room ≡ s.log.room

-- the two lists have as many elements, and these belong together
abbrev pub Pairs : {A B : Type 0} → (A → B → Type 0) → List A → List B → Type 0
Pairs R [] [] = Unit {0}
Pairs R [] (y ∷ ys) = ⊥
Pairs R (x ∷ xs) [] = ⊥
Pairs R (x ∷ xs) (y ∷ ys) = R x y × Pairs R xs ys
