-- Lists of seats that leave and come home one after another.
use Rattle.std.proofs.Common.{◌≡◌, ◌+◌, ◌<◌, List, [], ◌∷◌, ◌++◌, length, take, drop, slice_index_or, sym, refl, ap₂, ◌∙◌, subst, arith, append_assoc}
use Rattle.std.proofs.lemmas.List.{append-nil}
use Rattle.dc_crew.specs.declared.seats.Seat.{Seat}
use Rattle.dc_crew.specs.declared.threads.Started.{Started}
use Rattle.dc_crew.specs.Machines.{Staged}
use Rattle.dc_crew.specs.Laters.{IsLaterSeat, Pairs}
use Rattle.dc_crew.specs.Started.{IsStarted}
use Rattle.dc_crew.proofs.Laters.{pairs_snoc}

-- the first element was removed
pub removed : {A : Type 0} (xs : List A) (x : A) (ys : List A) → 0 < length xs → x ≡ slice_index_or xs 0 x → ys ≡ take 0 xs ++ drop (0 + 1) xs → xs ≡ x ∷ ys
removed [] x ys h v i = absurd (omega arith)
removed (z ∷ zs) x ys h v i = ap₂ (λ a zs. a ∷ zs) (sym v) (sym i)

pub none_left : {A : Type 0} (xs : List A) → length xs ≡ 0 → xs ≡ []
none_left [] e = refl
none_left (x ∷ xs) e = absurd (omega arith)

module _ (st : Staged) where
  -- the seats before these have come home, and these have not
  abbrev pub IsPartly : List Seat → List Seat → List Started → Type 0
  IsPartly seats home started =
      (done rest : List Seat) × (seats ≡ done ++ rest) × Pairs (IsLaterSeat st) done home × Pairs (IsStarted st) rest started

  pub none_home : (seats home : List Seat) (started : List Started) → home ≡ [] → Pairs (IsStarted st) seats started → IsPartly seats home started
  none_home seats home started e p = ([], seats, refl, subst (λ h. Pairs (IsLaterSeat st) [] h) (sym e) tt, p)

  -- one more came home
  pub one_home : (seats home : List Seat) (x : Started) (xs : List Started) (t : Seat) → ((s : Seat) → IsStarted st s x → IsLaterSeat st s t)
      → IsPartly seats home (x ∷ xs) → IsPartly seats (home ++ t ∷ []) xs
  one_home seats home x xs t comes (done, [], is, p, q) = absurd q
  one_home seats home x xs t comes (done, s ∷ rest, is, p, q) =
      (done ++ s ∷ [], rest, is ∙ sym (append_assoc done (s ∷ []) rest), pairs_snoc (IsLaterSeat st) done home s t p (comes s q.0), q.1)

  pub all_home : (seats home : List Seat) (started : List Started) → length started ≡ 0 → IsPartly seats home started → Pairs (IsLaterSeat st) seats home
  all_home seats home [] e (done, [], is, p, q) = subst (λ xs. Pairs (IsLaterSeat st) xs home) (sym (is ∙ append-nil done)) p
  all_home seats home [] e (done, s ∷ rest, is, p, q) = absurd q
  all_home seats home (x ∷ xs) e (done, rest, is, p, q) = absurd (omega arith)

  -- the seats before these were started
  abbrev pub HaveStarted : List Seat → List Seat → List Started → Type 0
  HaveStarted seats rest started = (done : List Seat) × (seats ≡ done ++ rest) × Pairs (IsStarted st) done started

  pub none_started : (seats : List Seat) (started : List Started) → started ≡ [] → HaveStarted seats seats started
  none_started seats started e = ([], refl, subst (λ h. Pairs (IsStarted st) [] h) (sym e) tt)

  -- one more was started
  pub one_started : (seats : List Seat) (s : Seat) (rest : List Seat) (started : List Started) (x : Started) → IsStarted st s x
      → HaveStarted seats (s ∷ rest) started → HaveStarted seats rest (started ++ x ∷ [])
  one_started seats s rest started x h (done, is, p) =
      (done ++ s ∷ [], is ∙ sym (append_assoc done (s ∷ []) rest), pairs_snoc (IsStarted st) done started s x p h)

  pub all_started : (seats rest : List Seat) (started : List Started) → length rest ≡ 0 → HaveStarted seats rest started → Pairs (IsStarted st) seats started
  all_started seats [] started e (done, is, p) = subst (λ xs. Pairs (IsStarted st) xs started) (sym (is ∙ append-nil done)) p
  all_started seats (s ∷ rest) started e (done, is, p) = absurd (omega arith)
