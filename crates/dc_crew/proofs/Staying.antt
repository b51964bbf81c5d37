-- The crew of a stage while its actors work.
use Rattle.std.proofs.Common.{◌≡◌, ℕ, suc, ◌+◌, List, [], ◌∷◌, length, sym, ◌∙◌, subst, arith}
use Rattle.dc_logs.specs.Rests.{AllOf}
use Rattle.dc_crew.specs.declared.seats.Seat.{Seat}
use Rattle.dc_crew.specs.Machines.{Staged}
use Rattle.dc_crew.specs.Seats.{IsSeat, IsCoreSeat}
use Rattle.dc_crew.specs.Laters.{IsLaterSeat, Pairs}
use Rattle.dc_crew.specs.Crews.{AreNumbered, IsLed, IsCrew}
use Rattle.dc_crew.proofs.Laters.{pairs_length}

module _ (st : Staged) where
  numbers_stay : (c : ℕ) (ss ts : List Seat) → Pairs (IsLaterSeat st) ss ts → AreNumbered c ss → AreNumbered c ts
  numbers_stay c [] [] p n = tt
  numbers_stay c [] (t ∷ ts) p n = absurd p
  numbers_stay c (s ∷ ss) [] p n = absurd p
  numbers_stay c (s ∷ ss) (t ∷ ts) p n = (p.0.pass.actor ∙ n.0, numbers_stay (suc c) ss ts p.1 n.1)

  seats_stay : (ss ts : List Seat) → Pairs (IsLaterSeat st) ss ts → AllOf (IsSeat st) ts
  seats_stay [] [] p = tt
  seats_stay [] (t ∷ ts) p = absurd p
  seats_stay (s ∷ ss) [] p = absurd p
  seats_stay (s ∷ ss) (t ∷ ts) p = (p.0.seat, seats_stay ss ts p.1)

  led_stays : (n : ℕ) (ss ts : List Seat) → Pairs (IsLaterSeat st) ss ts → IsLed n ss → IsLed n ts
  led_stays n [] ts p l = absurd l
  led_stays n (s ∷ ss) [] p l = absurd p
  led_stays n (s ∷ ss) (t ∷ ts) p l = (p.0.pass.first ∙ l.0, p.0.pass.made ∙ l.1, p.0.pass.joined ∙ l.2)

  -- a crew is one later too
  pub crew_stays : (ss ts : List Seat) (s t : Seat) → Pairs (IsLaterSeat st) ss ts → IsLaterSeat st s t → IsCrew st ss s → IsCrew st ts t
  crew_stays ss ts s t p q crew =
      let same : length ts ≡ length ss = sym (pairs_length (IsLaterSeat st) ss ts p) in record {
        count = same ∙ crew.count;
        numbers = numbers_stay 0 ss ts p crew.numbers;
        cores = seats_stay ss ts p;
        script_is = (q.seat, q.pass.actor ∙ crew.script_is.1);
        led = led_stays (length ts + 1) ss ts p (subst (λ n. IsLed (n + 1) ss) (sym same) crew.led);
      }

  cores_from : (c : ℕ) (ss : List Seat) → c + length ss ≡ st.scene.settings.cores → AreNumbered c ss → AllOf (IsSeat st) ss → AllOf (IsCoreSeat st) ss
  cores_from c [] e n a = tt
  cores_from c (s ∷ ss) e n a = ((a.0, (let m = n.0 in omega (arith, m, e))), cores_from (suc c) ss (omega (arith, e)) n.1 a.1)

  -- each of the seats of a crew is that of a core
  pub core_seats : (ss : List Seat) (s : Seat) → IsCrew st ss s → AllOf (IsCoreSeat st) ss
  core_seats ss s crew = cores_from 0 ss (let n = crew.count in omega (arith, n)) crew.numbers crew.cores
