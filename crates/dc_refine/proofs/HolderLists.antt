-- The told holders after a block is adopted and after one is released.
use Rattle.std.proofs.Common.{◌≡◌, ℕ, zero, suc, ◌+◌, ◌<◌, ◌≤◌, List, [], ◌∷◌, true, false, Some, refl, sym, ap, ◌∙◌, subst, arith}
use Rattle.std.specs.Prelude.{slice_get, slice_set, not, nat_lt, ◌==◌, ◌&&◌, if◌then◌else◌}
use Rattle.std.proofs.lemmas.Bool.Decides.{nat_tests}
use Rattle.dc_base.specs.States.{Block, Whereabouts, rest, on}
use Rattle.dc_base.specs.Holders.{with_pair, without_pair, is_free}
use Rattle.dc_base.specs.Placed.{IsOn}
use Rattle.dc_base.specs.Progress.{IsRest}
use Rattle.dc_base.specs.Telling.{with_holder, holders_from}

below_test : (n m : ℕ) → n < m → nat_lt n m ≡ true
below_test n m h = grind (arith, nat_tests)

not_below_test : (n m : ℕ) → m ≤ n → nat_lt n m ≡ false
not_below_test n m h = grind (arith, nat_tests)

apart_test : (n m : ℕ) → n < m → (m == n) ≡ false
apart_test n m h = grind (arith, nat_tests)

other_test : (n m : ℕ) → n < m → (n == m) ≡ false
other_test n m h = grind (arith, nat_tests)

same_test : (n m : ℕ) → n ≡ m → (n == m) ≡ true
same_test n m h = grind (arith, nat_tests, h)

-- a pair before all others
first_by : (b c n : ℕ) (w : Whereabouts) (ps : List (ℕ × ℕ)) → b < n → with_pair b c ps ≡ (b, c) ∷ ps → with_pair b c (with_holder n w ps) ≡ (b, c) ∷ with_holder n w ps
first_by b c n (rest kept) ps h more = more
first_by b c n (on d z v) ps h more = ap (λ t. if t then (b, c) ∷ (n, d) ∷ ps else (n, d) ∷ with_pair b c ps) (below_test b n h)

first_pair : (b c n : ℕ) (xs : List Block) → b < n → with_pair b c (holders_from n xs) ≡ (b, c) ∷ holders_from n xs
first_pair b c n [] h = refl
first_pair b c n (x ∷ xs) h = first_by b c n x.whereabouts (holders_from (n + 1) xs) h (first_pair b c (n + 1) xs (omega (arith, h)))

-- a block that was at rest is on core c
here_by : (b c n : ℕ) (w u : Whereabouts) (xs : List Block) → IsRest w → IsOn c u → b ≡ n → with_pair b c (with_holder n w (holders_from (n + 1) xs)) ≡ with_holder n u (holders_from (n + 1) xs)
here_by b c n (on d z v) u xs r o e = absurd r
here_by b c n (rest kept) (rest other) xs r o e = absurd o
here_by b c n (rest kept) (on d z v) xs r o e =
    first_pair b c (n + 1) xs (omega (arith, e)) ∙ ap (λ i. (i, c) ∷ holders_from (n + 1) xs) e ∙ ap (λ i. (n, i) ∷ holders_from (n + 1) xs) (sym o)

later_by : (b c n : ℕ) (w : Whereabouts) (ps qs : List (ℕ × ℕ)) → n ≤ b → with_pair b c ps ≡ qs → with_pair b c (with_holder n w ps) ≡ with_holder n w qs
later_by b c n (rest kept) ps qs h e = e
later_by b c n (on d z v) ps qs h e = ap (λ t. if t then (b, c) ∷ (n, d) ∷ ps else (n, d) ∷ with_pair b c ps) (not_below_test b n h) ∙ ap (λ l. (n, d) ∷ l) e

pub holders_adopted : (c n : ℕ) (xs : List Block) (i b : ℕ) (x new : Block) → slice_get xs i ≡ Some x → IsRest x.whereabouts → IsOn c new.whereabouts → b ≡ n + i →
    with_pair b c (holders_from n xs) ≡ holders_from n (slice_set xs i new)
holders_adopted c n [] i b x new at r o e = cc
holders_adopted c n (y ∷ ys) zero b x new at r o e =
    let same : y ≡ x = cc in here_by b c n y.whereabouts new.whereabouts ys (subst (λ (v : Block). IsRest v.whereabouts) (sym same) r) o (omega (arith, e))
holders_adopted c n (y ∷ ys) (suc i) b x new at r o e =
    later_by b c n y.whereabouts (holders_from (n + 1) ys) (holders_from (n + 1) (slice_set ys i new)) (omega (arith, e)) (holders_adopted c (n + 1) ys i b x new at r o (omega (arith, e)))

-- a block at rest has no holder
free_later : (b n : ℕ) (w : Whereabouts) (ps : List (ℕ × ℕ)) → b < n → is_free ps b ≡ true → is_free (with_holder n w ps) b ≡ true
free_later b n (rest kept) ps h e = e
free_later b n (on d z v) ps h e = ap (λ t. not t && is_free ps b) (apart_test b n h) ∙ e

free_after : (b n : ℕ) (xs : List Block) → b < n → is_free (holders_from n xs) b ≡ true
free_after b n [] h = refl
free_after b n (x ∷ xs) h = free_later b n x.whereabouts (holders_from (n + 1) xs) h (free_after b (n + 1) xs (omega (arith, h)))

free_here : (b n : ℕ) (w : Whereabouts) (xs : List Block) → IsRest w → b ≡ n → is_free (with_holder n w (holders_from (n + 1) xs)) b ≡ true
free_here b n (on d z v) xs r e = absurd r
free_here b n (rest kept) xs r e = free_after b (n + 1) xs (omega (arith, e))

free_before : (b n : ℕ) (w : Whereabouts) (ps : List (ℕ × ℕ)) → n < b → is_free ps b ≡ true → is_free (with_holder n w ps) b ≡ true
free_before b n (rest kept) ps h e = e
free_before b n (on d z v) ps h e = ap (λ t. not t && is_free ps b) (other_test n b h) ∙ e

pub rest_free : (n : ℕ) (xs : List Block) (i b : ℕ) (x : Block) → slice_get xs i ≡ Some x → IsRest x.whereabouts → b ≡ n + i → is_free (holders_from n xs) b ≡ true
rest_free n [] i b x at r e = cc
rest_free n (y ∷ ys) zero b x at r e = let same : y ≡ x = cc in free_here b n y.whereabouts ys (subst (λ (v : Block). IsRest v.whereabouts) (sym same) r) (omega (arith, e))
rest_free n (y ∷ ys) (suc i) b x at r e = free_before b n y.whereabouts (holders_from (n + 1) ys) (omega (arith, e)) (rest_free (n + 1) ys i b x at r (omega (arith, e)))

-- a block that was on core c is at rest
kept_later : (b c n : ℕ) (w : Whereabouts) (ps : List (ℕ × ℕ)) → b < n → without_pair b c ps ≡ ps → without_pair b c (with_holder n w ps) ≡ with_holder n w ps
kept_later b c n (rest kept) ps h e = e
kept_later b c n (on d z v) ps h e = ap (λ t. if not (t && d == c) then (n, d) ∷ without_pair b c ps else without_pair b c ps) (apart_test b n h) ∙ ap (λ l. (n, d) ∷ l) e

kept_after : (b c n : ℕ) (xs : List Block) → b < n → without_pair b c (holders_from n xs) ≡ holders_from n xs
kept_after b c n [] h = refl
kept_after b c n (x ∷ xs) h = kept_later b c n x.whereabouts (holders_from (n + 1) xs) h (kept_after b c (n + 1) xs (omega (arith, h)))

gone_here : (b c n : ℕ) (w u : Whereabouts) (xs : List Block) → IsOn c w → IsRest u → b ≡ n → without_pair b c (with_holder n w (holders_from (n + 1) xs)) ≡ with_holder n u (holders_from (n + 1) xs)
gone_here b c n (rest kept) u xs o r e = absurd o
gone_here b c n (on d z v) (on f y x) xs o r e = absurd r
gone_here b c n (on d z v) (rest kept) xs o r e =
    ap (λ t. if not (t && d == c) then (n, d) ∷ without_pair b c (holders_from (n + 1) xs) else without_pair b c (holders_from (n + 1) xs)) (same_test n b (sym e))
    ∙ ap (λ t. if not t then (n, d) ∷ without_pair b c (holders_from (n + 1) xs) else without_pair b c (holders_from (n + 1) xs)) (same_test d c o)
    ∙ kept_after b c (n + 1) xs (omega (arith, e))

kept_before : (b c n : ℕ) (w : Whereabouts) (ps qs : List (ℕ × ℕ)) → n < b → without_pair b c ps ≡ qs → without_pair b c (with_holder n w ps) ≡ with_holder n w qs
kept_before b c n (rest kept) ps qs h e = e
kept_before b c n (on d z v) ps qs h e = ap (λ t. if not (t && d == c) then (n, d) ∷ without_pair b c ps else without_pair b c ps) (other_test n b h) ∙ ap (λ l. (n, d) ∷ l) e

pub holders_released : (c n : ℕ) (xs : List Block) (i b : ℕ) (x new : Block) → slice_get xs i ≡ Some x → IsOn c x.whereabouts → IsRest new.whereabouts → b ≡ n + i →
    without_pair b c (holders_from n xs) ≡ holders_from n (slice_set xs i new)
holders_released c n [] i b x new at o r e = cc
holders_released c n (y ∷ ys) zero b x new at o r e =
    let same : y ≡ x = cc in gone_here b c n y.whereabouts new.whereabouts ys (subst (λ (v : Block). IsOn c v.whereabouts) (sym same) o) r (omega (arith, e))
holders_released c n (y ∷ ys) (suc i) b x new at o r e =
    kept_before b c n y.whereabouts (holders_from (n + 1) ys) (holders_from (n + 1) (slice_set ys i new)) (omega (arith, e)) (holders_released c (n + 1) ys i b x new at o r (omega (arith, e)))
