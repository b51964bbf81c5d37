-- Histories: runs, lawfulness and the entries of one actor, of a history that is one entry longer.
use Rattle.std.proofs.Common.{◌≡◌, ◌≢◌, ℕ, zero, suc, ◌+◌, ◌*◌, ◌<◌, ◌≤◌, ◌==◌, Bool, true, false, cond, [], ◌∷◌, ◌++◌, length, sym, refl, ap, ◌∙◌, arith, length-append, append_assoc, eq-eqb, ne_eqb, suc-mul}
use mathlib.Core.Logic.{dite}
use mathlib.Core.List.{IsPrefix}
use native.Mathlib.Decide.{ℕ_discrete, dec_le}
use Rattle.dc_stage.specs.History.{Meaning, Log, own, run, IsLawfulFrom}

module _ {Wh St En : Type 0} (p : Meaning Wh St En) where
  pub run_append : (st : Wh) (xs ys : Log En) → run p st (xs ++ ys) ≡ run p (run p st xs) ys
  run_append st [] ys = refl
  run_append st (x ∷ xs) ys = run_append (p.next st x.0 x.1) xs ys

  pub lawful_snoc : (st : Wh) (xs : Log En) (by : ℕ) (e : En) → IsLawfulFrom p st xs → p.lawful (run p st xs) by e → IsLawfulFrom p st (xs ++ (by, e) ∷ [])
  lawful_snoc st [] by e l h = (h, tt)
  lawful_snoc st (x ∷ xs) by e l h = (l.0, lawful_snoc (p.next st x.0 x.1) xs by e l.1 h)

module _ {En : Type 0} where
  -- a beginning of a list is one of a longer list
  pub longer : (xs ys zs : Log En) → IsPrefix xs ys → IsPrefix xs (ys ++ zs)
  longer xs ys zs h = (h.0 ++ zs, sym (append_assoc xs h.0 zs) ∙ ap (λ t. t ++ zs) h.1)

  cond_append : (b : Bool) (e : ℕ × En) (xs ys : Log En) → cond b (e ∷ xs ++ ys) (xs ++ ys) ≡ cond b (e ∷ xs) xs ++ ys
  cond_append true e xs ys = refl
  cond_append false e xs ys = refl

  pub own_append : (a : ℕ) (xs ys : Log En) → own a (xs ++ ys) ≡ own a xs ++ own a ys
  own_append a [] ys = refl
  own_append a (x ∷ xs) ys = ap (λ z. cond (a == x.0) (x ∷ z) z) (own_append a xs ys) ∙ cond_append (a == x.0) x (own a xs) (own a ys)

  pub own_here : (a : ℕ) (e : En) → own a ((a, e) ∷ []) ≡ (a, e) ∷ []
  own_here a e = ap (λ b. cond b ((a, e) ∷ []) []) (eq-eqb a a refl)

  pub own_other : (a b : ℕ) (e : En) → a ≢ b → own a ((b, e) ∷ []) ≡ []
  own_other a b e ne = ap (λ t. cond t ((b, e) ∷ []) []) (ne_eqb a b ne)

  none_of : (xs : Log En) → length xs ≡ 0 → xs ≡ []
  none_of [] h = refl
  none_of (x ∷ xs) h = absurd (omega arith)

  -- where an actor's entries are all in a beginning, the rest has none of them
  pub own_rest : (a : ℕ) (xs ys : Log En) → own a (xs ++ ys) ≡ own a xs → own a ys ≡ []
  own_rest a xs ys h = none_of (own a ys) (let e = ap length (sym (own_append a xs ys) ∙ h) in let l = length-append (own a xs) (own a ys) in omega arith)

  -- the entries of the actors below k
  upto : ℕ → Log En → ℕ
  upto zero log = 0
  upto (suc k) log = length (own k log) + upto k log

  own_miss : (a : ℕ) (e : ℕ × En) (es : Log En) → a ≢ e.0 → own a (e ∷ es) ≡ own a es
  own_miss a e es ne = ap (λ t. cond t (e ∷ own a es) (own a es)) (ne_eqb a e.0 ne)

  pub own_hit : (a : ℕ) (e : ℕ × En) (es : Log En) → a ≡ e.0 → own a (e ∷ es) ≡ e ∷ own a es
  own_hit a e es eq = ap (λ t. cond t (e ∷ own a es) (own a es)) (eq-eqb a e.0 eq)

  upto_out : (k : ℕ) (e : ℕ × En) (es : Log En) → k ≤ e.0 → upto k (e ∷ es) ≡ upto k es
  unfolding upto
  upto_out zero e es le = refl
  upto_out (suc k) e es le = let m = ap length (own_miss k e es (λ h. omega arith)) in let r = upto_out k e es (omega arith) in omega arith

  upto_in : (k : ℕ) (e : ℕ × En) (es : Log En) → e.0 < k → upto k (e ∷ es) ≡ suc (upto k es)
  unfolding upto
  upto_in zero e es lt = absurd (omega arith)
  upto_in (suc k) e es lt = dite (ℕ_discrete k e.0)
      (λ h. let m = ap length (own_hit k e es h) in let r = upto_out k e es (omega arith) in omega arith)
      (λ n. let m = ap length (own_miss k e es n) in let r = upto_in k e es (omega arith) in omega arith)

  below : (e : ℕ × En) (es : Log En) (k : ℕ) → ((a : ℕ) → k ≤ a → own a (e ∷ es) ≡ []) → e.0 < k
  below e es k h = dite (dec_le k e.0) (λ le. let x = ap length (sym (own_hit e.0 e es refl) ∙ h e.0 le) in absurd (omega arith)) (λ n. omega arith)

  rest_out : (e : ℕ × En) (es : Log En) (k : ℕ) → ((a : ℕ) → k ≤ a → own a (e ∷ es) ≡ []) → (a : ℕ) → k ≤ a → own a es ≡ []
  rest_out e es k h a le = let lt = below e es k h in sym (own_miss a e es (λ x. omega arith)) ∙ h a le

  length_upto : (k : ℕ) (log : Log En) → ((a : ℕ) → k ≤ a → own a log ≡ []) → length log ≤ upto k log
  length_upto k [] h = omega arith
  length_upto k (e ∷ es) h = let r = length_upto k es (rest_out e es k h) in let i = upto_in k e es (below e es k h) in omega arith

  upto_few : (k b : ℕ) (log : Log En) → ((a : ℕ) → length (own a log) ≤ b) → upto k log ≤ k * b
  unfolding upto
  upto_few zero b log h = omega arith
  upto_few (suc k) b log h = let m = h k in let r = upto_few k b log h in let q = suc-mul k b in omega arith

  -- 64 actors with at most b entries each
  pub length_few : (b : ℕ) (log : Log En) → ((a : ℕ) → 64 ≤ a → own a log ≡ []) → ((a : ℕ) → length (own a log) ≤ b) → length log ≤ 64 * b
  length_few b log out few = let x = length_upto 64 log out in let y = upto_few 64 b log few in omega arith

  pub own_none : (a : ℕ) (xs ys : Log En) → own a (xs ++ ys) ≡ [] → own a xs ≡ []
  own_none a xs ys h = none_of (own a xs) (let e = ap length (sym (own_append a xs ys) ∙ h) in let l = length-append (own a xs) (own a ys) in omega arith)
