-- Lists that belong together, and what becomes of passes and seats.
use Rattle.std.proofs.Common.{◌≡◌, suc, List, [], ◌∷◌, ◌++◌, length, refl, ap, ◌∙◌}
use Rattle.dc_stage.specs.Passes.{Known, Setting, IsOf}
use Rattle.dc_logs.specs.Rests.{AllOf}
use Rattle.dc_logs.proofs.Beginnings.{prefix_same, prefix_through}
use Rattle.dc_crew.specs.declared.seats.Seat.{Seat}
use Rattle.dc_crew.specs.Machines.{Staged}
use Rattle.dc_crew.specs.Seats.{IsSeat}
use Rattle.dc_crew.specs.Laters.{IsLater, IsLaterSeat, Pairs}

module _ {Sc En : Type 0} where
  pub later_same : (k : Known Sc En) → IsLater k k
  later_same k = record { table = refl; scene = refl; actor = refl; first = refl; made = refl; joined = refl; sees = prefix_same k.seen }

  pub later_through : (k l m : Known Sc En) → IsLater k l → IsLater l m → IsLater k m
  later_through k l m p q = record {
    table = q.table ∙ p.table;
    scene = q.scene ∙ p.scene;
    actor = q.actor ∙ p.actor;
    first = q.first ∙ p.first;
    made = q.made ∙ p.made;
    joined = q.joined ∙ p.joined;
    sees = prefix_through k.seen l.seen m.seen p.sees q.sees;
  }

  pub later_of : (k l : Known Sc En) (s : Setting Sc) → IsLater k l → IsOf k s → IsOf l s
  later_of k l s p h = (p.table ∙ h.0, p.scene ∙ h.1)

module _ (st : Staged) where
  pub later_seat_same : (s : Seat) → IsSeat st s → IsLaterSeat st s s
  later_seat_same s h = record { pass = later_same s.pass; seat = h; room = refl }

  pub later_seat_through : (s t u : Seat) → IsLaterSeat st s t → IsLaterSeat st t u → IsLaterSeat st s u
  later_seat_through s t u p q = record { pass = later_through s.pass t.pass u.pass p.pass q.pass; seat = q.seat; room = q.room ∙ p.room }

module _ {A B : Type 0} (R : A → B → Type 0) where
  pub pairs_snoc : (xs : List A) (ys : List B) (x : A) (y : B) → Pairs R xs ys → R x y → Pairs R (xs ++ x ∷ []) (ys ++ y ∷ [])
  pairs_snoc [] [] x y p r = (r, tt)
  pairs_snoc [] (z ∷ ys) x y p r = absurd p
  pairs_snoc (z ∷ xs) [] x y p r = absurd p
  pairs_snoc (z ∷ xs) (w ∷ ys) x y p r = (p.0, pairs_snoc xs ys x y p.1 r)

  pub pairs_length : (xs : List A) (ys : List B) → Pairs R xs ys → length xs ≡ length ys
  pairs_length [] [] p = refl
  pairs_length [] (y ∷ ys) p = absurd p
  pairs_length (x ∷ xs) [] p = absurd p
  pairs_length (x ∷ xs) (y ∷ ys) p = ap suc (pairs_length xs ys p.1)

module _ {A : Type 0} (P : A → Type 0) where
  pub all_snoc : (xs : List A) (x : A) → AllOf P xs → P x → AllOf P (xs ++ x ∷ [])
  all_snoc [] x a p = (p, tt)
  all_snoc (y ∷ ys) x a p = (a.0, all_snoc ys x a.1 p)

  -- all but the last
  pub all_init : (xs : List A) (x : A) → AllOf P (xs ++ x ∷ []) → AllOf P xs × P x
  all_init [] x a = (tt, a.0)
  all_init (y ∷ ys) x a = let b = all_init ys x a.1 in ((a.0, b.0), b.1)
