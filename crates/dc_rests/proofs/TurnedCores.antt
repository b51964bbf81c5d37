-- Cores that are turned one after another: each is taken from the front, and goes behind the others.
use Rattle.std.proofs.Common.{◌≡◌, ℕ, ◌+◌, ◌<◌, ◌≤◌, Bool, true, false, ◌&&◌, List, [], ◌∷◌, ◌++◌, length}
use Rattle.std.proofs.Common.{sym, refl, ap, ◌∙◌, subst, arith, append_assoc, length-append}
use Rattle.std.proofs.lemmas.Bool.{false≢true}
use Rattle.std.proofs.lemmas.List.{append-nil}
use Rattle.dc_logs.specs.Rests.{AllOf}
use Rattle.dc_crew.specs.declared.seats.Seat.{Seat}
use Rattle.dc_crew.specs.Laters.{IsLaterSeat, Pairs}
use Rattle.dc_crew.specs.Machines.{Staged}
use Rattle.dc_crew.specs.Seats.{IsCoreSeat}
use Rattle.dc_crew.proofs.Laters.{pairs_snoc, all_snoc}
use Rattle.dc_rests.specs.Settling.{IsQuietSeat}

-- both are so
pub both_true : (q r : Bool) → (q && r) ≡ true → (q ≡ true) × (r ≡ true)
both_true true r e = (refl, e)
both_true false r e = absurd (false≢true e)

first_same : {A : Type 0} (a b : A) (xs ys : List A) → a ∷ xs ≡ b ∷ ys → a ≡ b
first_same a b xs ys e = cc e

others_same : {A : Type 0} (a b : A) (xs ys : List A) → a ∷ xs ≡ b ∷ ys → xs ≡ ys
others_same a b xs ys e = cc e

module _ (st : Staged) (n : ℕ) where
  -- The first i of these cores were turned, and stand behind the others. None of them could do anything, where it is so said.
  pub record AreTurned (before now : List Seat) (i : ℕ) (are_quiet : Bool) : Type 0 where
    pub done : List Seat
    pub left : List Seat
    pub home : List Seat
    pub all : before ≡ done ++ left
    pub now_is : now ≡ left ++ home
    pub later : Pairs (IsLaterSeat st) done home
    pub quiet : are_quiet ≡ true → AllOf (IsQuietSeat st n) home
    pub count : length done ≡ i
    pub cores : AllOf (IsCoreSeat st) left

  pub none_turned : (xs : List Seat) → AllOf (IsCoreSeat st) xs → AreTurned xs xs 0 true
  none_turned xs cores = record {
    done = [];
    left = xs;
    home = [];
    all = refl;
    now_is = sym (append-nil xs);
    later = tt;
    quiet = λ t. tt;
    count = refl;
    cores = cores;
  }

  module _ (before : List Seat) (i : ℕ) (x : Seat) (others : List Seat) (less : i < length before) where
    is_next : (done left home : List Seat) → before ≡ done ++ left → x ∷ others ≡ left ++ home → length done ≡ i
        → (tail : List Seat) × (left ≡ x ∷ tail) × (others ≡ tail ++ home)
    is_next done [] home all now count = absurd (let a = ap length all in let b = length-append done [] in omega (arith, a, b, count, less))
    is_next done (r ∷ tail) home all now count =
        (tail, ap (λ z. z ∷ tail) (sym (first_same x r others (tail ++ home) now)), others_same x r others (tail ++ home) now)

    module _ (q : Bool) (t : AreTurned before (x ∷ others) i q) where
      -- the next one is a core
      pub next_is_core : IsCoreSeat st x
      next_is_core = let next = is_next t.done t.left t.home t.all t.now_is t.count in (subst (λ xs. AllOf (IsCoreSeat st) xs) next.1 t.cores).0

      -- one more was turned
      pub one_turned : (y : Seat) (r : Bool) → IsLaterSeat st x y → (r ≡ true → IsQuietSeat st n y) → AreTurned before (others ++ y ∷ []) (i + 1) (q && r)
      one_turned y r later quiet =
          let next = is_next t.done t.left t.home t.all t.now_is t.count in record {
            done = t.done ++ x ∷ [];
            left = next.0;
            home = t.home ++ y ∷ [];
            all = t.all ∙ (ap (λ r. t.done ++ r) next.1 ∙ sym (append_assoc t.done (x ∷ []) next.0));
            now_is = ap (λ o. o ++ y ∷ []) next.2 ∙ append_assoc next.0 t.home (y ∷ []);
            later = pairs_snoc (IsLaterSeat st) t.done t.home x y t.later later;
            quiet = λ e. let both = both_true q r e in all_snoc (IsQuietSeat st n) t.home y (t.quiet both.0) (quiet both.1);
            count = let a = length-append t.done (x ∷ []) in let b = t.count in omega (arith, a, b);
            cores = (subst (λ xs. AllOf (IsCoreSeat st) xs) next.1 t.cores).1;
          }

  module _ (before now : List Seat) (i : ℕ) (q : Bool) (enough : length before ≤ i) (t : AreTurned before now i q) where
    all_done : (left : List Seat) → before ≡ t.done ++ left → now ≡ left ++ t.home → (before ≡ t.done) × (now ≡ t.home)
    all_done [] all is = (all ∙ append-nil t.done, is)
    all_done (r ∷ left) all is = absurd (let a = ap length all in let b = length-append t.done (r ∷ left) in let c = t.count in omega (arith, a, b, c, enough))

    -- where all were turned, each stands in its place again
    pub all_turned : Pairs (IsLaterSeat st) before now
    all_turned =
        let d = all_done t.left t.all t.now_is in
        subst (λ z. Pairs (IsLaterSeat st) z now) (sym d.0) (subst (λ z. Pairs (IsLaterSeat st) t.done z) (sym d.1) t.later)

    -- and none could do anything, where it is so said
    pub all_quiet : q ≡ true → AllOf (IsQuietSeat st n) now
    all_quiet e = subst (λ z. AllOf (IsQuietSeat st n) z) (sym (all_done t.left t.all t.now_is).1) (t.quiet e)
