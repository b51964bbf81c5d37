-- How many entries actors made: where these are all actors, and stand apart, as many as the history has.
use Rattle.std.proofs.Common.{◌≡◌, ◌≢◌, ℕ, ◌+◌, ◌==◌, ◌||◌, Bool, true, false, true≢false, cond, List, [], ◌∷◌, length, sym, refl, ap, ap₂, ◌∙◌}
use Rattle.std.proofs.Common.{arith, eq-eqb, ne_eqb}
use mathlib.Core.Logic.{dite}
use native.Mathlib.Decide.{ℕ_discrete}
use Rattle.dc_stage.specs.Numbers.{has, IsApart}
use Rattle.dc_stage.specs.History.{Log, own}

count_of : ℕ → ℕ → ℕ
count_of a b = cond (a == b) 1 0

-- how often the number stands there
times : ℕ → List ℕ → ℕ
times b [] = 0
times b (a ∷ xs) = count_of a b + times b xs

times_none : (b : ℕ) (xs : List ℕ) → has b xs ≡ false → times b xs ≡ 0
unfolding times count_of
times_none b [] n = refl
times_none b (a ∷ xs) n =
    let p = or_false (b == a) (has b xs) n in
    let ne : a ≢ b = λ e. true≢false (sym (eq-eqb b a (sym e)) ∙ p.0) in
    ap₂ (λ y z. y + z) (ap (λ c. cond {A = ℕ} c 1 0) (ne_eqb a b ne)) (times_none b xs p.1)
  where
    or_false : (c d : Bool) → (c || d) ≡ false → (c ≡ false) × (d ≡ false)
    or_false true d h = absurd (true≢false h)
    or_false false d h = (refl, h)

times_one : (b : ℕ) (xs : List ℕ) → IsApart xs → has b xs ≡ true → times b xs ≡ 1
unfolding times count_of
times_one b [] apart h = absurd (true≢false (sym h))
times_one b (a ∷ xs) apart h = dite (ℕ_discrete b a)
    (λ e. ap₂ (λ y z. y + z) (ap (λ c. cond {A = ℕ} c 1 0) (eq-eqb a b (sym e))) (times_none b xs (ap (λ z. has z xs) e ∙ apart.0)))
    (λ n. ap₂ (λ y z. y + z) (ap (λ c. cond {A = ℕ} c 1 0) (ne_eqb a b (λ e. n (sym e))))
    (times_one b xs apart.1 (ap (λ c. c || has b xs) (sym (ne_eqb b a n)) ∙ h)))

module _ {En : Type 0} where
  -- how many entries of these actors the history has
  abbrev pub counted : List ℕ → Log En → ℕ
  counted [] h = 0
  counted (a ∷ xs) h = length (own a h) + counted xs h

  length_step : (a : ℕ) (x : ℕ × En) (h : Log En) → length (own a (x ∷ h)) ≡ count_of a x.0 + length (own a h)
  unfolding count_of
  length_step a x h = by (a == x.0)
    where
      by : (b : Bool) → length (cond b (x ∷ own a h) (own a h)) ≡ cond b 1 0 + length (own a h)
      by true = omega arith
      by false = omega arith

  counted_step : (xs : List ℕ) (x : ℕ × En) (h : Log En) → counted xs (x ∷ h) ≡ times x.0 xs + counted xs h
  unfolding times
  counted_step [] x h = omega arith
  counted_step (a ∷ xs) x h = let p = length_step a x h in let q = counted_step xs x h in omega (arith, p, q)

  -- only these actors have entries
  abbrev pub Others : List ℕ → Log En → Type 0
  Others xs h = (a : ℕ) → has a xs ≡ false → own a h ≡ []

  others_rest : (xs : List ℕ) (x : ℕ × En) (h : Log En) → Others xs (x ∷ h) → Others xs h
  others_rest xs x h o a n = none (own a h) (let p = length_step a x h in let q = ap length (o a n) in omega (arith, p, q))
    where
      none : (ys : Log En) → length ys ≡ 0 → ys ≡ []
      none [] e = refl
      none (y ∷ ys) e = absurd (omega arith)

  others_first : (xs : List ℕ) (x : ℕ × En) (h : Log En) → Others xs (x ∷ h) → (b : Bool) → has x.0 xs ≡ b → has x.0 xs ≡ true
  unfolding count_of
  others_first xs x h o true is = is
  others_first xs x h o false is =
      let p = length_step x.0 x h in
      let q = ap length (o x.0 is) in
      let r : count_of x.0 x.0 ≡ 1 = ap (λ c. cond {A = ℕ} c 1 0) (eq-eqb x.0 x.0 refl) in
      absurd (omega (arith, p, q, r))

  pub counted_all : (xs : List ℕ) (h : Log En) → IsApart xs → Others xs h → counted xs h ≡ length h
  counted_all xs [] apart o = none xs
    where
      none : (ys : List ℕ) → counted ys [] ≡ 0
      none [] = refl
      none (y ∷ ys) = let p = none ys in omega (arith, p)
  counted_all xs (x ∷ h) apart o =
      let p = counted_step xs x h in
      let q = times_one x.0 xs apart (others_first xs x h o (has x.0 xs) refl) in
      let r = counted_all xs h apart (others_rest xs x h o) in
      omega (arith, p, q, r)
