-- Rests before entries that need one: what is known of them stays so, and at the end it is so of the history.
use Rattle.std.proofs.Common.{◌≡◌, ℕ, zero, suc, ◌+◌, Bool, true, false, true≢false, cond, List, [], ◌∷◌, ◌++◌, length, take, Some, sym, refl}
use Rattle.std.proofs.Common.{ap, ◌∙◌, subst, arith, length-append}
use Rattle.std.specs.Prelude.{slice_get}
use Rattle.std.proofs.lemmas.Option.{same_Some}
use Rattle.std.proofs.lemmas.List.{take-append-le, take_all}
use mathlib.Core.List.{IsPrefix}
use Rattle.dc_stage.specs.History.{Log, own}
use Rattle.dc_logs.specs.Marks.{marked}
use Rattle.dc_logs.specs.Rests.{AllOf, QuietBy, places, AreRests}
use Rattle.dc_logs.proofs.Marks.{marked_none, marked_kept}
use Rattle.dc_logs.proofs.MarkPlaces.{mark_has}

more_by : (P : ℕ → Type 0) (b : Bool) (t : ℕ) (ts us : List ℕ) → AllOf P (cond b (t ∷ ts) ts) → (AllOf P ts → AllOf P us) → AllOf P (cond b (t ∷ us) us)
more_by P true t ts us a f = (a.0, f a.1)
more_by P false t ts us a f = f a

last_by : (P : ℕ → Type 0) (b : Bool) (t : ℕ) → (b ≡ true → P t) → AllOf P (cond b (t ∷ []) [])
last_by P true t p = (p refl, tt)
last_by P false t p = tt

found_by : (P : ℕ → Type 0) (b : Bool) (t : ℕ) (ts : List ℕ) → b ≡ true → AllOf P (cond b (t ∷ ts) ts) → P t
found_by P true t ts is a = a.0
found_by P false t ts is a = absurd (true≢false (sym is))

rest_by : (P : ℕ → Type 0) (b : Bool) (t : ℕ) (ts : List ℕ) → AllOf P (cond b (t ∷ ts) ts) → AllOf P ts
rest_by P true t ts a = a.1
rest_by P false t ts a = a

module _ {En : Type 0} (needs_rest : En → Bool) (AtRest : Log En → Type 0) where
  pub quiet_later : (t : ℕ) (s u : Log En) → IsPrefix s u → QuietBy AtRest t s → QuietBy AtRest t u
  quiet_later t s u (rest, is) (few, quiet) =
      let same : take t (s ++ rest) ≡ take t s = take-append-le t s rest few in (
        (let n = ap length is in let m = length-append s rest in omega (arith, n, m, few)),
        subst AtRest (sym same ∙ ap (take t) is) quiet,
      )

  pub quiet_now : (n : ℕ) (s : Log En) → length s ≡ n → AtRest s → QuietBy AtRest n s
  quiet_now n s is quiet = (omega (arith, is), subst AtRest (sym (take_all n s (omega (arith, is)))) quiet)

  -- before the first entry of the actor none is asked for
  pub no_rest : (a : ℕ) (h seen : Log En) → own a h ≡ [] → AreRests needs_rest AtRest a h seen
  no_rest a h seen none = subst (λ ms. AllOf (λ t. QuietBy AtRest t seen) (places needs_rest ms)) (sym (marked_none a 0 h none)) tt

  all_later : (ts : List ℕ) (s u : Log En) → IsPrefix s u → AllOf (λ t. QuietBy AtRest t s) ts → AllOf (λ t. QuietBy AtRest t u) ts
  all_later [] s u pre a = tt
  all_later (t ∷ ts) s u pre a = (quiet_later t s u pre a.0, all_later ts s u pre a.1)

  pub rests_later : (a : ℕ) (h s u : Log En) → IsPrefix s u → AreRests needs_rest AtRest a h s → AreRests needs_rest AtRest a h u
  rests_later a h s u pre r = all_later (places needs_rest (marked a 0 h)) s u pre r

  -- others made entries
  pub rests_kept : (a : ℕ) (s u seen : Log En) → IsPrefix s u → own a u ≡ own a s → AreRests needs_rest AtRest a s seen → AreRests needs_rest AtRest a u seen
  rests_kept a s u seen pre same r = subst (λ ms. AllOf (λ t. QuietBy AtRest t seen) (places needs_rest ms)) (sym (marked_kept a s u pre same)) r

  places_snoc : (P : ℕ → Type 0) (ms : List (ℕ × En)) (m : ℕ × En) → AllOf P (places needs_rest ms) → (needs_rest m.1 ≡ true → P m.0)
      → AllOf P (places needs_rest (ms ++ m ∷ []))
  places_snoc P [] m a p = last_by P (needs_rest m.1) m.0 p
  places_snoc P (x ∷ ms) m a p =
      more_by P (needs_rest x.1) x.0 (places needs_rest ms) (places needs_rest (ms ++ m ∷ [])) a (λ r. places_snoc P ms m r p)

  grown : (a n : ℕ) (s u seen : Log En) (e : En) → marked a 0 u ≡ marked a 0 s ++ (n, e) ∷ [] → AreRests needs_rest AtRest a s seen
      → (needs_rest e ≡ true → QuietBy AtRest n seen) → AreRests needs_rest AtRest a u seen
  grown a n s u seen e is rests quiet =
      subst (λ ms. AllOf (λ t. QuietBy AtRest t seen) (places needs_rest ms)) (sym is)
      (places_snoc (λ t. QuietBy AtRest t seen) (marked a 0 s) (n, e) rests quiet)

  -- the actor made one entry more, after a rest
  pub one_rest : (a n : ℕ) (s u seen : Log En) (e : En) → marked a 0 u ≡ marked a 0 s ++ (n, e) ∷ [] → AreRests needs_rest AtRest a s seen
      → QuietBy AtRest n seen
      → AreRests needs_rest AtRest a u seen
  one_rest a n s u seen e is rests quiet = grown a n s u seen e is rests (λ needs. quiet)

  -- the actor made one entry more that needs none
  pub one_other : (a n : ℕ) (s u seen : Log En) (e : En) → marked a 0 u ≡ marked a 0 s ++ (n, e) ∷ [] → needs_rest e ≡ false
      → AreRests needs_rest AtRest a s seen
      → AreRests needs_rest AtRest a u seen
  one_other a n s u seen e is free rests = grown a n s u seen e is rests (λ needs. absurd (true≢false (sym needs ∙ free)))

  found : (P : ℕ → Type 0) (ms : List (ℕ × En)) (i : ℕ) (m : ℕ × En) → slice_get ms i ≡ Some m → needs_rest m.1 ≡ true → AllOf P (places needs_rest ms)
      → P m.0
  found P [] i m is needs a = absurd (cc is)
  found P (x ∷ ms) zero m is needs a =
      let same : x ≡ m = same_Some x m is in
      subst (λ (z : ℕ × En). P z.0) same (found_by P (needs_rest x.1) x.0 (places needs_rest ms) (ap (λ (z : ℕ × En). needs_rest z.1) same ∙ needs) a)
  found P (x ∷ ms) (suc i) m is needs a = found P ms i m is needs (rest_by P (needs_rest x.1) x.0 (places needs_rest ms) a)

  at_place : (before : Log En) (x : ℕ × En) (rest : Log En) → slice_get (before ++ x ∷ rest) (length before) ≡ Some x
  at_place [] x rest = refl
  at_place (y ∷ before) x rest = at_place before x rest

  -- before each entry of the actor that needs one there is a rest
  pub rests_held : (a : ℕ) (h u : Log En) → IsPrefix u h → AreRests needs_rest AtRest a h u → (before rest : Log En) (e : En) → h ≡ before ++ (a, e) ∷ rest
      → needs_rest e ≡ true → AtRest before
  rests_held a h u pre rests before rest e is needs =
      let m = mark_has a 0 h (length before) e (ap (λ z. slice_get z (length before)) is ∙ at_place before (a, e) rest) in
      let quiet = found (λ t. QuietBy AtRest t h) (marked a 0 h) m.0 (0 + length before, e) m.1 needs (rests_later a h u h pre rests) in
      let same : take (0 + length before) h ≡ before =
      ap (take (0 + length before)) is
      ∙ (take-append-le (0 + length before) before ((a, e) ∷ rest) (omega arith) ∙ take_all (0 + length before) before (omega arith)) in
      subst AtRest same quiet.1
