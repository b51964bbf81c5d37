-- Started cores that are turned one after another.
use Rattle.std.proofs.Common.{◌≡◌, ℕ, ◌+◌, ◌<◌, ◌≤◌, List, [], ◌∷◌, ◌++◌, length, sym, refl, ap, ◌∙◌, subst, arith, append_assoc, length-append}
use Rattle.std.proofs.lemmas.List.{append-nil}
use Rattle.dc_logs.specs.Rests.{AllOf}
use Rattle.dc_crew.specs.declared.seats.Seat.{Seat}
use Rattle.dc_crew.specs.declared.threads.Started.{Started}
use Rattle.dc_crew.specs.Machines.{Staged}
use Rattle.dc_crew.specs.Laters.{Pairs}
use Rattle.dc_crew.specs.Seats.{IsCoreSeat}
use Rattle.dc_crew.specs.Started.{IsStarted}
use Rattle.dc_crew.proofs.Laters.{pairs_snoc}

first_same : {A : Type 0} (a b : A) (xs ys : List A) → a ∷ xs ≡ b ∷ ys → a ≡ b
first_same a b xs ys e = cc e

others_same : {A : Type 0} (a b : A) (xs ys : List A) → a ∷ xs ≡ b ∷ ys → xs ≡ ys
others_same a b xs ys e = cc e

module _ (st : Staged) where
  -- whatever seat was started with the first, it was with the second
  abbrev pub IsStillStarted : Started → Started → Type 0
  IsStillStarted x y = (s : Seat) → IsStarted st s x → IsStarted st s y

  -- it was started with the seat of a core
  abbrev pub IsOfCore : Started → Type 0
  IsOfCore x = (s : Seat) × IsCoreSeat st s × IsStarted st s x

  all_of_cores : (seats : List Seat) (xs : List Started) → AllOf (IsCoreSeat st) seats → Pairs (IsStarted st) seats xs → AllOf IsOfCore xs
  all_of_cores [] [] a p = tt
  all_of_cores [] (x ∷ xs) a p = absurd p
  all_of_cores (s ∷ seats) [] a p = absurd p
  all_of_cores (s ∷ seats) (x ∷ xs) a p = ((s, a.0, p.0), all_of_cores seats xs a.1 p.1)

  still_started : (seats : List Seat) (xs ys : List Started) → Pairs IsStillStarted xs ys → Pairs (IsStarted st) seats xs → Pairs (IsStarted st) seats ys
  still_started [] [] [] q p = tt
  still_started [] [] (y ∷ ys) q p = absurd q
  still_started [] (x ∷ xs) ys q p = absurd p
  still_started (s ∷ seats) [] ys q p = absurd p
  still_started (s ∷ seats) (x ∷ xs) [] q p = absurd q
  still_started (s ∷ seats) (x ∷ xs) (y ∷ ys) q p = (q.0 s p.0, still_started seats xs ys q.1 p.1)

  -- some of these cores were turned, and stand behind the others
  pub record AreTurned (before now : List Started) (i : ℕ) : Type 0 where
    pub done : List Started
    pub left : List Started
    pub home : List Started
    pub all : before ≡ done ++ left
    pub now_is : now ≡ left ++ home
    pub still : Pairs IsStillStarted done home
    pub count : length done ≡ i
    pub cores : AllOf IsOfCore left

  pub none_turned : (xs : List Started) → ((seats : List Seat) × AllOf (IsCoreSeat st) seats × Pairs (IsStarted st) seats xs) → AreTurned xs xs 0
  none_turned xs (seats, a, p) = record {
    done = [];
    left = xs;
    home = [];
    all = refl;
    now_is = sym (append-nil xs);
    still = tt;
    count = refl;
    cores = all_of_cores seats xs a p;
  }

  module _ (before : List Started) (i : ℕ) (x : Started) (others : List Started) (less : i < length before) where
    is_next : (done left home : List Started) → before ≡ done ++ left → x ∷ others ≡ left ++ home → length done ≡ i
        → (tail : List Started) × (left ≡ x ∷ tail) × (others ≡ tail ++ home)
    is_next done [] home all now count = absurd (let a = ap length all in let b = length-append done [] in omega (arith, a, b, count, less))
    is_next done (r ∷ tail) home all now count =
        (tail, ap (λ z. z ∷ tail) (sym (first_same x r others (tail ++ home) now)), others_same x r others (tail ++ home) now)

    -- the next one was started with the seat of a core
    pub next_of_core : AreTurned before (x ∷ others) i → IsOfCore x
    next_of_core t = let n = is_next t.done t.left t.home t.all t.now_is t.count in (subst (λ xs. AllOf IsOfCore xs) n.1 t.cores).0

    pub one_turned : (y : Started) → IsStillStarted x y → AreTurned before (x ∷ others) i → AreTurned before (others ++ y ∷ []) (i + 1)
    one_turned y still t =
        let n = is_next t.done t.left t.home t.all t.now_is t.count in record {
          done = t.done ++ x ∷ [];
          left = n.0;
          home = t.home ++ y ∷ [];
          all = t.all ∙ (ap (λ r. t.done ++ r) n.1 ∙ sym (append_assoc t.done (x ∷ []) n.0));
          now_is = ap (λ o. o ++ y ∷ []) n.2 ∙ append_assoc n.0 t.home (y ∷ []);
          still = pairs_snoc IsStillStarted t.done t.home x y t.still still;
          count = let a = length-append t.done (x ∷ []) in let b = t.count in omega (arith, a, b);
          cores = (subst (λ xs. AllOf IsOfCore xs) n.1 t.cores).1;
        }

  -- where all were turned, the seats are started as before
  pub all_turned : (seats : List Seat) (before now : List Started) (i : ℕ) → length before ≤ i → AreTurned before now i
      → Pairs (IsStarted st) seats before → Pairs (IsStarted st) seats now
  all_turned seats before now i enough t = still_started seats before now (by t.left t.all t.now_is)
    where
      by : (left : List Started) → before ≡ t.done ++ left → now ≡ left ++ t.home → Pairs IsStillStarted before now
      by [] all is = subst (λ z. Pairs IsStillStarted z now) (sym (all ∙ append-nil t.done)) (subst (λ z. Pairs IsStillStarted t.done z) (sym is) t.still)
      by (r ∷ left) all is = absurd (let a = ap length all in let b = length-append t.done (r ∷ left) in let c = t.count in omega (arith, a, b, c, enough))
