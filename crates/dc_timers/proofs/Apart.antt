-- Timers that are added, removed or looked for by number.
use Rattle.std.proofs.Common.{◌≡◌, ◌≢◌, ◌<◌, ◌+◌, ℕ, Bool, true, false, cond, not, List, [], ◌∷◌, ◌++◌, refl, ap, ◌∙◌, arith}
use Rattle.std.proofs.lemmas.Bool.{ne_eqb, eq-eqb, le-ltb}
use Rattle.dc_base.specs.declared.interrupts.Timer.{Timer}
use Rattle.dc_base.specs.Timers.{without_timer}
use Rattle.dc_timers.specs.Numbers.{DifferFrom, AreNumbered}
use Rattle.dc_timers.proofs.TimerOrders.{is_lower}
use Rattle.dc_timers.proofs.Sorting.{put_by, symmetric}

pub differ-below : (next : ℕ) (ts : List Timer) → AreNumbered next ts → DifferFrom next ts
differ-below next [] r = tt
differ-below next (t ∷ ts) r = let lt : t.number < next = r.0 in ((λ e. absurd (omega (arith, e))), differ-below next ts r.2)

pub numbered-more : (next : ℕ) (ts : List Timer) → AreNumbered next ts → AreNumbered (next + 1) ts
numbered-more next [] r = tt
numbered-more next (t ∷ ts) r = let lt : t.number < next = r.0 in (omega arith, r.1, numbered-more next ts r.2)

-- the greatest number comes last
pub put-last : (t : Timer) (us : List Timer) → AreNumbered t.number us → put_by is_lower t us ≡ us ++ t ∷ []
put-last t [] r = refl
put-last t (u ∷ us) r =
    let lt : u.number < t.number = r.0 in
    let rest = put-last t us r.2 in
    ap (λ b. cond b (t ∷ u ∷ us) (u ∷ put_by is_lower t us)) (le-ltb t.number u.number (omega arith)) ∙ ap (λ ys. u ∷ ys) rest

pub without-none : (t : Timer) (us : List Timer) → DifferFrom t.number us → without_timer t us ≡ us
without-none t [] d = refl
without-none t (u ∷ us) d =
    ap (λ b. cond (not b) (u ∷ without_timer t us) (without_timer t us)) (ne_eqb u.number t.number d.0) ∙ ap (λ ys. u ∷ ys) (without-none t us d.1)

pub without-put : (lt : Timer → Timer → Bool) (t : Timer) (us : List Timer) → DifferFrom t.number us → without_timer t (put_by lt t us) ≡ us
without-put lt t [] d = ap (λ b. cond (not b) (t ∷ []) []) (eq-eqb t.number t.number refl)
without-put lt t (u ∷ us) d =
    let first = ap (λ b. cond (not b) (t ∷ without_timer t (u ∷ us)) (without_timer t (u ∷ us))) (eq-eqb t.number t.number refl) ∙ without-none t (u ∷ us) d in
    let later = ap (λ b. cond (not b) (u ∷ without_timer t (put_by lt t us)) (without_timer t (put_by lt t us))) (ne_eqb u.number t.number d.0) ∙ ap (λ ys. u ∷ ys) (without-put lt t us d.1) in
    elim (lt t u) as (λ b. without_timer t (cond b (t ∷ u ∷ us) (u ∷ put_by lt t us)) ≡ u ∷ us) [ true ↦ first | false ↦ later ]

pub differ-append : (n : ℕ) (xs ys : List Timer) → DifferFrom n xs → DifferFrom n ys → DifferFrom n (xs ++ ys)
differ-append n [] ys d e = e
differ-append n (x ∷ xs) ys d e = (d.0, differ-append n xs ys d.1 e)

pub differ-front : (n : ℕ) (xs ys : List Timer) → DifferFrom n (xs ++ ys) → DifferFrom n xs
differ-front n [] ys d = tt
differ-front n (x ∷ xs) ys d = (d.0, differ-front n xs ys d.1)

pub differ-back : (n : ℕ) (xs ys : List Timer) → DifferFrom n (xs ++ ys) → DifferFrom n ys
differ-back n [] ys d = d
differ-back n (x ∷ xs) ys d = differ-back n xs ys d.1

differ-past : (n : ℕ) (xs : List Timer) (t : Timer) (ys : List Timer) → DifferFrom n (xs ++ t ∷ ys) → (t.number ≢ n) × DifferFrom n (xs ++ ys)
differ-past n xs t ys d = let b = differ-back n xs (t ∷ ys) d in (b.0, differ-append n xs ys (differ-front n xs (t ∷ ys) d) b.1)

pub numbered-insert : (next : ℕ) (xs : List Timer) (t : Timer) (ys : List Timer) → AreNumbered next (xs ++ ys) → t.number < next → DifferFrom t.number (xs ++ ys) → AreNumbered next (xs ++ t ∷ ys)
numbered-insert next [] t ys r lt d = (lt, d, r)
numbered-insert next (x ∷ xs) t ys r lt d =
    (r.0, differ-append x.number xs (t ∷ ys) (differ-front x.number xs ys r.1) (symmetric d.0, differ-back x.number xs ys r.1), numbered-insert next xs t ys r.2 lt d.1)

-- one of them, and the others
pub record IsAmong (next : ℕ) (t : Timer) (others : List Timer) : Type 0 where
  pub below : t.number < next
  pub apart : DifferFrom t.number others
  pub rest : AreNumbered next others

pub numbered-remove : (next : ℕ) (xs : List Timer) (t : Timer) (ys : List Timer) → AreNumbered next (xs ++ t ∷ ys) → IsAmong next t (xs ++ ys)
numbered-remove next [] t ys r = record { below = r.0; apart = r.1; rest = r.2 }
numbered-remove next (x ∷ xs) t ys r =
    let more = numbered-remove next xs t ys r.2 in
    let p = differ-past x.number xs t ys r.1 in
    record { below = more.below; apart = (symmetric p.0, more.apart); rest = (r.0, p.1, more.rest) }
