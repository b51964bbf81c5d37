-- The top of a heap is the earliest of its ready list.
use Rattle.std.proofs.Common.{◌≡◌, ℕ, ◌+◌, ◌-◌, ◌<◌, ◌≤◌, Bool, true, false, cond, List, [], ◌∷◌, length, sym, refl, ap, ◌∙◌, subst, ⊎_elim, arith, suc}
use Rattle.std.specs.Prelude.{◌==◌, ◌||◌, ◌&&◌, nat_lt, Option, Some, None, slice_get, slice_index}
use Rattle.std.proofs.lemmas.Bool.{eqb-true, eq-eqb, or_left, or_right, or_cases, cases_Bool, true≢false, lt-ltb}
use Rattle.std.proofs.lemmas.Option.{none-some, same_Some, get_or_from_slice_get}
use Rattle.dc_base.specs.declared.kernels.Version.TheVariants.{Edf}
use Rattle.dc_base.specs.Words.{lists}
use Rattle.dc_base.specs.Policies.{is_earlier, earlier, earliest, pick}
use Rattle.dc_ready.specs.Entries.{dispatchers, AreDues}
use Rattle.dc_ready.specs.Heaps.{is_before, leaf, node, IsHeapOf}
use Rattle.dc_ready.specs.declared.heaps.Candidate.{Candidate}
use Rattle.dc_ready.proofs.Listed.{below-listed}
use Rattle.dc_ready.proofs.Winners.{IsNotBefore, same-number}
use Rattle.dc_ready.proofs.Nodes.{leaf-not-before, top-leaf}

module _ (dues : List ℕ) where
  earliest-listed : (ds : List ℕ) (e : ℕ) → earliest dues ds ≡ Some e → lists ds e ≡ true
  earliest-listed [] e h = absurd (none-some e h)
  earliest-listed (d ∷ ds) e h = by_rest (earliest-listed ds e) (earliest dues ds) refl (same_Some (earlier dues d (earliest dues ds)) e h)
    where
      by_rest : (earliest dues ds ≡ Some e → lists ds e ≡ true) → (o : Option ℕ) → earliest dues ds ≡ o → earlier dues d o ≡ e → (d == e || lists ds e) ≡ true
      by_rest more None q s = or_left (d == e) (lists ds e) (eq-eqb d e s)
      by_rest more (Some f) q s = by_test (is_earlier dues f d) s
        where
          by_test : (b : Bool) → cond b f d ≡ e → (d == e || lists ds e) ≡ true
          by_test true s = or_right (d == e) (lists ds e) (more (q ∙ ap Some s))
          by_test false s = or_left (d == e) (lists ds e) (eq-eqb d e s)

  -- the one that no other is earlier than
  earliest-is : (ds : List ℕ) (n : ℕ) → lists ds n ≡ true → ((d : ℕ) → lists ds d ≡ true → is_earlier dues d n ≡ false) → earliest dues ds ≡ Some n
  earliest-is [] n h least = cc
  earliest-is (d ∷ ds) n h least = ⊎_elim (λ l. there (earliest-is ds n l (λ e m. least e (or_right (d == e) (lists ds e) m)))) here (cases_Bool (lists ds n))
    where
      later : (e : ℕ) → lists ds e ≡ true → is_earlier dues e n ≡ false
      later e l = least e (or_right (d == e) (lists ds e) l)

      first : is_earlier dues d n ≡ false
      first = least d (or_left (d == d) (lists ds d) (eq-eqb d d refl))

      by_test : (b : Bool) → is_earlier dues n d ≡ b → cond b n d ≡ n
      by_test true q = refl
      by_test false q = same-number (slice_index dues d) d (slice_index dues n) n first q

      there : earliest dues ds ≡ Some n → earliest dues (d ∷ ds) ≡ Some n
      there more = ap (λ o. Some (earlier dues d o)) more ∙ ap Some (by_test (is_earlier dues n d) refl)

      at_front : (o : Option ℕ) → earliest dues ds ≡ o → earlier dues n o ≡ n
      at_front None q = refl
      at_front (Some e) q = ap (λ b. cond b e n) (later e (earliest-listed ds e q))

      here : lists ds n ≡ false → earliest dues (d ∷ ds) ≡ Some n
      here f = ⊎_elim
          (λ (t : d == n ≡ true). ap (λ m. Some (earlier dues m (earliest dues ds))) (eqb-true d n t) ∙ ap Some (at_front (earliest dues ds) refl))
          (λ (l : lists ds n ≡ true). absurd (true≢false (sym l ∙ f)))
          (or_cases (d == n) (lists ds n) h)

  -- what the leaf of a dispatcher says of it
  record IsLeafOf (es : List (ℕ × ℕ)) (d : ℕ) (c : Candidate) : Type 0 where
    pub number : c.number ≡ d
    pub due : slice_index dues d ≡ c.due
    pub listed : lists (dispatchers es) d ≡ true

  leaf-is : (es : List (ℕ × ℕ)) (d : ℕ) (c : Candidate) → AreDues dues es → leaf d es ≡ Some c → IsLeafOf es d c
  leaf-is [] d c are h = absurd (none-some c h)
  leaf-is (e ∷ es) d c are h = by_test (leaf-is es d c (λ i x g. are (suc i) x g)) (e.0 == d) refl h
    where
      by_test : (leaf d es ≡ Some c → IsLeafOf es d c) → (b : Bool) → (e.0 == d) ≡ b → cond b (Some (record { due = e.1; number = d })) (leaf d es) ≡ Some c → IsLeafOf (e ∷ es) d c
      by_test rest true q s =
          let same : record { due = e.1; number = d } ≡ c = same_Some (record { due = e.1; number = d }) c s in
          let at_d : slice_get dues d ≡ Some e.1 = subst (λ m. slice_get dues m ≡ Some e.1) (eqb-true e.0 d q) (are 0 e refl) in
          record {
            number = sym (ap (λ (x : Candidate). x.number) same);
            due = get_or_from_slice_get dues d e.1 0 at_d ∙ ap (λ (x : Candidate). x.due) same;
            listed = or_left (e.0 == d) (lists (dispatchers es) d) q;
          }
      by_test rest false q s =
          let more = rest s in
          record { number = more.number; due = more.due; listed = or_right (e.0 == d) (lists (dispatchers es) d) more.listed }

leaf-there : (es : List (ℕ × ℕ)) (d : ℕ) → lists (dispatchers es) d ≡ true → (c : Candidate) × (leaf d es ≡ Some c)
leaf-there [] d h = cc
leaf-there (e ∷ es) d h = by_test (leaf-there es d) (e.0 == d) h
  where
    by_test : (lists (dispatchers es) d ≡ true → (c : Candidate) × (leaf d es ≡ Some c)) → (b : Bool) → (b || lists (dispatchers es) d) ≡ true → (c : Candidate) × (cond b (Some (record { due = e.1; number = d })) (leaf d es) ≡ Some c)
    by_test more true t = (record { due = e.1; number = d }, refl)
    by_test more false t = more t

-- by the dues of all dispatchers
is_later : (dues : List ℕ) (c f : Candidate) (e : ℕ) → f.number ≡ e → slice_index dues e ≡ f.due → slice_index dues c.number ≡ c.due → is_before f c ≡ false → is_earlier dues e c.number ≡ false
is_later dues c f e x y z k =
    let by : ℕ → ℕ → ℕ → Type 0 = λ a b n. (nat_lt a b || (a == b && nat_lt n c.number)) ≡ false in
    subst (λ a. by a (slice_index dues c.number) e) (sym y) (subst (λ b. by f.due b e) (sym z) (subst (by f.due c.due) x k))

module _ (nodes : List (Option Candidate)) (es : List (ℕ × ℕ)) (is : IsHeapOf nodes es) where
  at_leaf : (d : ℕ) (c : Candidate) → d < 16 → leaf d es ≡ Some c → node nodes (16 + d) ≡ Some c
  at_leaf d c lt h = is.leaves d lt ∙ h

  -- the top is some dispatcher's leaf
  top-is : (c : Candidate) → node nodes 1 ≡ Some c → (d : ℕ) × (leaf d es ≡ Some c)
  top-is c top =
      let t = top-leaf nodes is.heap in
      let d : ℕ = t.place - 16 in
      let low : 16 ≤ t.place = t.low in
      let high : t.place < 32 = t.high in
      let lt : d < 16 = omega arith in
      let same : 16 + d ≡ t.place = omega arith in
      (d, sym (is.leaves d lt) ∙ (ap (node nodes) same ∙ (sym t.same ∙ top)))

  pub pick-some : (c : Candidate) → node nodes 1 ≡ Some c → (dues : List ℕ) → AreDues dues es → Some c.number ≡ pick Edf dues (dispatchers es)
  unfolding pick
  pick-some c top dues are =
      let t = top-is c top in
      let of = leaf-is dues es t.0 c are t.1 in
      sym (earliest-is dues (dispatchers es) c.number (subst (λ n. lists (dispatchers es) n ≡ true) (sym of.number) of.listed) (no_earlier of.number of.due))
    where
      no_earlier : {d : ℕ} → c.number ≡ d → slice_index dues d ≡ c.due → (e : ℕ) → lists (dispatchers es) e ≡ true → is_earlier dues e c.number ≡ false
      no_earlier {d} number due e l =
          let f = leaf-there es e l in
          let lt = below-listed 16 e es is.once l in
          let g = leaf-is dues es e f.0 are f.1 in
          let n : IsNotBefore (node nodes (16 + e)) (node nodes 1) = leaf-not-before nodes is.heap (16 + e) (omega arith) (omega arith) in
          let m : IsNotBefore (Some f.0) (node nodes 1) = subst (λ o. IsNotBefore o (node nodes 1)) (at_leaf e f.0 lt f.1) n in
          let k : is_before f.0 c ≡ false = subst (IsNotBefore (Some f.0)) top m in
          let x : f.0.number ≡ e = g.number in
          let y : slice_index dues e ≡ f.0.due = g.due in
          let z : slice_index dues c.number ≡ c.due = ap (slice_index dues) number ∙ due in
          is_later dues c f.0 e x y z k

  -- no leaf is there where the top is empty
  none-there : node nodes 1 ≡ None → es ≡ []
  none-there top = by_list es refl
    where
      by_list : (xs : List (ℕ × ℕ)) → es ≡ xs → xs ≡ []
      by_list [] q = refl
      by_list (e ∷ xs) q =
          let l : lists (dispatchers es) e.0 ≡ true = subst (λ ys. lists (dispatchers ys) e.0 ≡ true) (sym q) (or_left (e.0 == e.0) (lists (dispatchers xs) e.0) (eq-eqb e.0 e.0 refl)) in
          let f = leaf-there es e.0 l in
          let lt = below-listed 16 e.0 es is.once l in
          let n : IsNotBefore (node nodes (16 + e.0)) (node nodes 1) = leaf-not-before nodes is.heap (16 + e.0) (omega arith) (omega arith) in
          let m : IsNotBefore (Some f.0) (node nodes 1) = subst (λ o. IsNotBefore o (node nodes 1)) (at_leaf e.0 f.0 lt f.1) n in
          absurd (subst (IsNotBefore (Some f.0)) top m)

  pub pick-none : node nodes 1 ≡ None → (dues : List ℕ) → None ≡ pick Edf dues (dispatchers es)
  unfolding pick
  pick-none top dues = ap (λ xs. earliest dues (dispatchers xs)) (sym (none-there top))

  pub length-none : node nodes 1 ≡ None → false ≡ nat_lt 0 (length es)
  length-none top = ap (λ xs. nat_lt 0 (length xs)) (sym (none-there top))

  pub length-some : (c : Candidate) → node nodes 1 ≡ Some c → true ≡ nat_lt 0 (length es)
  length-some c top = by_list es refl
    where
      t : (d : ℕ) × (leaf d es ≡ Some c)
      t = top-is c top

      by_list : (xs : List (ℕ × ℕ)) → es ≡ xs → true ≡ nat_lt 0 (length xs)
      by_list [] q = absurd (none-some c (ap (leaf t.0) (sym q) ∙ t.1))
      by_list (x ∷ xs) q = sym (lt-ltb 0 (length (x ∷ xs)) (omega arith))
