-- A take, and a take that finds another number, keep the rule.
use Rattle.std.proofs.Common.{◌≡◌, ◌≢◌, ℕ, zero, suc, ◌+◌, ◌<◌, eqb, true, false, List, [], ◌∷◌, length, get_or, set, sym, refl, ap, ◌∙◌, subst, inl, inr, ⊎_elim, arith, length-set, append-nil, get_or-set_other, get_or-set_same, true≢false}
use Rattle.std.specs.Prelude.{Option, Some}
use mathlib.Core.Option.{none, some}
use mathlib.Core.Logic.{dite}
use native.Mathlib.Decide.{ℕ_discrete}
use prog.Atomic.{either}
use lib.ListN.{get_elem?}
use Rattle.atomic_table.specs.Table.{State, Act, step, keeps, takes, Allows, Valid, stepped, carried_after}
use Rattle.atomic_table.proofs.Lists.{set_else, exchanged}
use Rattle.dc_stage.specs.Numbers.{has}
use Rattle.dc_stage.specs.History.{Meaning, Log, after}
use Rattle.dc_stage.specs.Views.{taking, refusing}
use Rattle.dc_stage.specs.Rule.{alive_in, IsHome, IsHeld, IsKept}
use Rattle.dc_stage.specs.Steps.{At, GoesOn, took}
use Rattle.dc_stage.specs.declared.view.View.{View}
use Rattle.dc_stage.proofs.Numbers.{has_cons, has_tail, has_head, pair_cons}
use Rattle.dc_stage.proofs.Views.{there, one_of, two_alive, crew_stays, held_stays, moved, recalls}

pub set_same : (l : List ℕ) (k : ℕ) → set l k (get_or l k 0) ≡ l
set_same [] k = refl
set_same (x ∷ xs) zero = refl
set_same (x ∷ xs) (suc k) = ap (λ z. x ∷ z) (set_same xs k)

module _ {Wh St En Ob Sc : Type 0} (meaning : Sc → Meaning Wh St En) (state : Ob → St) (sc : Sc) where
  abbrev Goes : State (Option Ob) (View Sc En) → ℕ → ℕ → At Sc En Ob → (ℕ → At Sc En Ob → Type 0) → ℕ → Type 0
  Goes s k id me then x = (w : View Sc En) × (a : Act (Option Ob)) × Valid s.homes me.1 a × IsKept (meaning sc) state sc (stepped s k x id me.1 w a) × then (get_or s.words k 0) (w, carried_after me.1 a)

  pub attempts : (n id i : ℕ) (me : At Sc En Ob) → me.0.live ≡ true → has i me.0.holds ≡ false → i < n
      → Allows (IsKept (meaning sc) state sc) n id me (i + 1) (λ y. either (eqb y 0) (me.0.actor + 1) y) (took meaning state (step n (i + 1) 0 (me.0.actor + 1) none) me)
  attempts n id i me live free near s r many at small =
      let p = meaning sc in let v = me.0 in let a : ℕ = v.actor in let ok = r.each_view id v at live in let y : ℕ = get_or s.words (i + 1) 0 in
      let told = took meaning state (step n (i + 1) 0 (a + 1) none) me in
      let near' : i < length s.homes = omega (arith, many) in
      let wide : length s.words ≡ length s.homes + 1 = r.wide in
      let not_mine : has i v.holds ≢ true = λ h. true≢false (sym h ∙ free) in
      exchanged y 0 (a + 1) (Goes s (i + 1) id me told)
      (λ hit. ⊎_elim
      (λ (h : IsHome p state r.log s.words s.homes i).
      let w : View Sc En = taking v i r.log in let words' = set s.words (i + 1) (a + 1) in
      let word_stays : (j : ℕ) → j ≢ i + 1 → get_or words' j 0 ≡ get_or s.words j 0 = λ j ne. get_or-set_other s.words (i + 1) j (a + 1) 0 ne in
      let here : get_or words' (i + 1) 0 ≡ a + 1 = get_or-set_same s.words (i + 1) (a + 1) 0 (omega arith) in (
        w,
        takes i (Some h.1.0),
        h.1.1,
        moved p state sc s r id v w words' (set s.homes i none) r.log at live live refl refl (λ j g. has_tail j i v.took g)
            r.lawful (crew_stays r.log r.log s.views r.crew id v w at live refl refl refl refl refl (λ b ne. refl)) (length-set s.words (i + 1) (a + 1) ∙ (wide ∙ ap (λ z. z + 1) (sym (length-set s.homes i none)))) (word_stays 0 (λ e. omega arith) ∙ r.long) r.few r.actors
            record { scene = ok.scene; told = ok.told; sees = ([], append-nil r.log); mine = refl; small = ok.small; turn = λ j g. ⊎_elim (λ e. subst (λ (z : ℕ). get_or words' (z + 1) 0 ≡ a + 1) (sym e) here) (λ m. word_stays (j + 1) (λ e. not_mine (subst (λ (z : ℕ). has z v.holds ≡ true) (let q : j ≡ i = omega arith in q) m)) ∙ ok.turn j m) (has_cons j i v.holds g); same = λ j g. refl; ever = λ j g. ⊎_elim (λ e. has_head j i v.took e) (λ m. has_tail j i v.took (ok.ever j m)) (has_cons j i v.holds g) }
            (λ j u other there l. let o = r.each_view j u there l in
            record { scene = o.scene; told = o.told; sees = o.sees; mine = o.mine; small = o.small; turn = λ k g. word_stays (k + 1) (λ e. let t : y ≡ u.actor + 1 = ap (λ z. get_or s.words z 0) (sym e) ∙ o.turn k g in omega arith) ∙ o.turn k g; same = o.same; ever = o.ever })
            (λ j lt. dite (ℕ_discrete j i)
            (λ e. inr (id, w, there s.views id v w at, live, has_head j i v.holds e))
            (λ ne. ⊎_elim
            (λ (g : IsHome p state r.log s.words s.homes j). inl (word_stays (j + 1) (λ e. ne (let q : j ≡ i = omega arith in q)) ∙ g.0, (g.1.0, set_else s.homes i j none ne ∙ g.1.1, g.1.2)))
            (λ g. inr (held_stays j s.views id v w at live (has_tail j i v.holds) g))
            (r.each_turn j (subst (λ (z : ℕ). j < z) (length-set s.homes i none) lt))))
            (λ j b g. r.each_refusal id v at live j b g),
        (i, refl, (λ _. (h.1.0, r.log, record { scene = sc; at = ok.scene; sees = ok.sees; lawful = r.lawful; mine = ok.mine; told = ok.told; joined = recalls r.log s.views r.crew id v at; kept = λ j g. sym (ok.same j g) }, refl, h.1.2)), (λ miss. absurd (miss hit))),
      ))
      (λ (h : IsHeld s.views i). let o = r.each_view h.0 h.1 h.2 h.3 in let t : y ≡ h.1.actor + 1 = o.turn i h.4 in absurd (omega arith))
      (r.each_turn i near'))
      (λ miss. ⊎_elim
      (λ (h : IsHome p state r.log s.words s.homes i). absurd (miss h.0))
      (λ (h : IsHeld s.views i). let u = h.1 in let o = r.each_view h.0 u h.2 h.3 in let t : y ≡ u.actor + 1 = o.turn i h.4 in let w : View Sc En = refusing v i u.actor in
      let other : u.actor ≢ a = λ e. let j = r.apart h.0 id u v h.2 at h.3 live e in not_mine (subst (λ (z : View Sc En). has i z.holds ≡ true) (one_of s.views id u v (subst (λ k. get_elem? s.views k ≡ some u) j h.2) at) h.4) in
      let alone : ¬ ((v.first ≡ true) × (v.made ≡ length v.joined + 1)) = λ q.
      let zero_is : id ≡ 0 = r.crew.one id v at q.0 in
      let same : r.crew.head ≡ v = one_of s.views id r.crew.head v (subst (λ k. get_elem? s.views k ≡ some r.crew.head) (sym zero_is) r.crew.at) at in
      let two = two_alive s.views h.0 id u v h.2 at h.3 live (λ e. other (ap (λ (z : View Sc En). z.actor) (one_of s.views id u v (subst (λ k. get_elem? s.views k ≡ some u) e h.2) at))) in
      let count : alive_in s.views + length v.joined ≡ v.made = subst (λ (z : View Sc En). alive_in s.views + length z.joined ≡ z.made) same r.crew.count in
      let made : v.made ≡ length v.joined + 1 = q.1 in omega arith in (
        w,
        keeps,
        tt,
        subst (λ (z : List ℕ). IsKept p state sc record { words = z; homes = s.homes; views = set s.views id w }) (sym (set_same s.words (i + 1)))
            (moved p state sc s r id v w s.words s.homes r.log at live live refl refl (λ j g. g) r.lawful (crew_stays r.log r.log s.views r.crew id v w at live refl refl refl refl refl (λ b ne. refl)) wide r.long r.few r.actors
            record { scene = ok.scene; told = ok.told; sees = ok.sees; mine = ok.mine; small = ok.small; turn = ok.turn; same = ok.same; ever = ok.ever }
            (λ j x _ there l. r.each_view j x there l)
            (λ j lt. ⊎_elim (λ g. inl g) (λ g. inr (held_stays j s.views id v w at live (λ x. x) g)) (r.each_turn j lt))
            (λ j b g. ⊎_elim
            (λ (q : (j ≡ i) × (b ≡ u.actor)). ((λ e. other (sym q.1 ∙ e)), (h.0, u, h.2, h.3, inl (sym q.1, subst (λ (z : ℕ). has z u.took ≡ true) (sym q.0) (o.ever i h.4)))))
            (λ m. r.each_refusal id v at live j b m)
            (pair_cons j b i u.actor v.refused g))),
        (i, refl, (λ hit. absurd (miss hit)), λ _. (u.actor, t, o.small, refl, other, alone)),
      ))
      (r.each_turn i near'))

pub slot_same : {X : Type 0} (i : ℕ) (x y : X) (r s : List (ℕ × X)) → (i, x) ∷ r ≡ (i, y) ∷ s → x ≡ y
slot_same {X} i x y r s e = ap from e
  where
    from : List (ℕ × X) → X
    from [] = x
    from (z ∷ zs) = z.1

module _ {Wh St En Ob Sc : Type 0} (meaning : Sc → Meaning Wh St En) (state : Ob → St) where
  -- a try that found 0 took the object
  pub got : (n i b : ℕ) (m m' : At Sc En Ob) (r : ℕ) → took meaning state (step n (i + 1) 0 b none) m r m' → r ≡ 0
      → (x : Ob) × (log : Log En) × (g : GoesOn meaning m.0 log) × (m' ≡ (taking m.0 i log, (i, Some x) ∷ m.1)) × (state x ≡ after (meaning g.scene) log i)
  got n i b m m' r t z = let same : t.0 ≡ i = (let w : i + 1 ≡ t.0 + 1 = t.1 in omega arith) in
      subst (λ (j : ℕ). (x : Ob) × (log : Log En) × (g : GoesOn meaning m.0 log) × (m' ≡ (taking m.0 j log, (j, Some x) ∷ m.1)) × (state x ≡ after (meaning g.scene) log j)) same (t.2 z)

  -- another did not
  pub missed : (n i b : ℕ) (m m' : At Sc En Ob) (r : ℕ) → took meaning state (step n (i + 1) 0 b none) m r m' → r ≢ 0
      → (a : ℕ) × (r ≡ a + 1) × (a < 64) × (m' ≡ (refusing m.0 i a, m.1)) × (a ≢ m.0.actor) × ¬ ((m.0.first ≡ true) × (m.0.made ≡ length m.0.joined + 1))
  missed n i b m m' r t z = let same : t.0 ≡ i = (let w : i + 1 ≡ t.0 + 1 = t.1 in omega arith) in
      subst (λ (j : ℕ). (a : ℕ) × (r ≡ a + 1) × (a < 64) × (m' ≡ (refusing m.0 j a, m.1)) × (a ≢ m.0.actor) × ¬ ((m.0.first ≡ true) × (m.0.made ≡ length m.0.joined + 1))) same (t.3 z)
