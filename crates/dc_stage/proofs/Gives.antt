-- An object that goes home in the state kept for it keeps the rule.
use Rattle.std.proofs.Common.{◌≡◌, ◌≢◌, ℕ, ◌+◌, ◌<◌, eqb, true, List, ◌∷◌, length, get_or, set, sym, refl, ap, ◌∙◌, subst, inl, inr, ⊎_elim, arith, length-set, get_or-set_other, get_or-set_same, true≢false}
use Rattle.std.specs.Prelude.{Option, Some}
use mathlib.Core.Option.{none, some}
use mathlib.Core.Logic.{dite}
use native.Mathlib.Decide.{ℕ_discrete}
use prog.Atomic.{either}
use lib.ListN.{get_elem?}
use Rattle.atomic_table.specs.Table.{State, Act, step, gives, Allows, rest, Valid, stepped, carried_after}
use Rattle.atomic_table.proofs.Lists.{set_else, set_here, exchanged}
use Rattle.dc_stage.specs.Numbers.{has, without}
use Rattle.dc_stage.specs.History.{Meaning, after}
use Rattle.dc_stage.specs.Views.{giving}
use Rattle.dc_stage.specs.Rule.{IsHome, IsKept}
use Rattle.dc_stage.specs.Steps.{gave, At}
use Rattle.dc_stage.specs.declared.view.View.{View}
use Rattle.dc_stage.proofs.Numbers.{without_other, without_same}
use Rattle.dc_stage.proofs.Views.{crew_stays, held_stays, moved}

module _ {Wh St En Ob Sc : Type 0} (meaning : Sc → Meaning Wh St En) (state : Ob → St) (sc : Sc) where
  abbrev Goes : State (Option Ob) (View Sc En) → ℕ → ℕ → At Sc En Ob → (ℕ → At Sc En Ob → Type 0) → ℕ → Type 0
  Goes s k id me then x = (w : View Sc En) × (a : Act (Option Ob)) × Valid s.homes me.1 a × IsKept (meaning sc) state sc (stepped s k x id me.1 w a) × then (get_or s.words k 0) (w, carried_after me.1 a)

  pub returns_home : (n id i : ℕ) (v : View Sc En) (x : Ob) (c : List (ℕ × Option Ob)) → v.live ≡ true → v.scene ≡ Some sc → has i v.holds ≡ true → i < n → state x ≡ after (meaning sc) v.seen i
      → Allows (IsKept (meaning sc) state sc) n id (v, (i, Some x) ∷ c) (i + 1) (λ y. either (eqb y (v.actor + 1)) 0 y) (gave (step n (i + 1) (v.actor + 1) 0 none) (v, (i, Some x) ∷ c))
  returns_home n id i v x c live scene mine near right s r many at small =
      let p = meaning sc in let a : ℕ = v.actor in let ok = r.each_view id v at live in let y : ℕ = get_or s.words (i + 1) 0 in
      let me : At Sc En Ob = (v, (i, Some x) ∷ c) in
      let near' : i < length s.homes = omega (arith, many) in
      let wide : length s.words ≡ length s.homes + 1 = r.wide in
      let w : View Sc En = giving v i in let words' = set s.words (i + 1) 0 in let homes' = set s.homes i (some (Some x)) in
      let word_stays : (j : ℕ) → j ≢ i + 1 → get_or words' j 0 ≡ get_or s.words j 0 = λ j ne. get_or-set_other s.words (i + 1) j 0 0 ne in
      let here : get_or words' (i + 1) 0 ≡ 0 = get_or-set_same s.words (i + 1) 0 0 (omega arith) in
      let still : (j : ℕ) → has j (without i v.holds) ≡ true → (j ≢ i) × (has j v.holds ≡ true) = λ j g.
      let ne : j ≢ i = λ e. true≢false (sym g ∙ (ap (λ z. has z (without i v.holds)) e ∙ without_same i v.holds)) in (ne, sym (without_other j i v.holds ne) ∙ g) in
      let far : (j : ℕ) → j ≢ i → j + 1 ≢ i + 1 = λ j ne e. ne (let q : j ≡ i = omega arith in q) in
      exchanged y (a + 1) 0 (Goes s (i + 1) id me (gave (step n (i + 1) (a + 1) 0 none) me))
      (λ hit. (
        w,
        gives,
        tt,
        moved p state sc s r id v w words' homes' r.log at live live refl refl (λ j g. g)
            r.lawful (crew_stays r.log r.log s.views r.crew id v w at live refl refl refl refl refl (λ b ne. refl)) (length-set s.words (i + 1) 0 ∙ (wide ∙ ap (λ z. z + 1) (sym (length-set s.homes i (some (Some x)))))) (word_stays 0 (λ e. omega arith) ∙ r.long) r.few r.actors
            record { scene = ok.scene; told = ok.told; sees = ok.sees; mine = ok.mine; small = ok.small; turn = λ j g. let k = still j g in word_stays (j + 1) (far j k.0) ∙ ok.turn j k.1; same = λ j g. ok.same j (still j g).1; ever = λ j g. ok.ever j (still j g).1 }
            (λ j u other there l. let o = r.each_view j u there l in
            record { scene = o.scene; told = o.told; sees = o.sees; mine = o.mine; small = o.small; turn = λ k g. word_stays (k + 1) (λ e. other (r.apart j id u v there at l live (let t : y ≡ u.actor + 1 = ap (λ z. get_or s.words z 0) (sym e) ∙ o.turn k g in omega arith))) ∙ o.turn k g; same = o.same; ever = o.ever })
            (λ j lt. dite (ℕ_discrete j i)
            (λ e. inl (ap (λ z. get_or words' (z + 1) 0) e ∙ here, (x, ap (get_elem? homes') e ∙ set_here s.homes i (some (Some x)) near', right ∙ (ok.same i mine ∙ ap (after p r.log) (sym e)))))
            (λ ne. ⊎_elim
            (λ (g : IsHome p state r.log s.words s.homes j). inl (word_stays (j + 1) (far j ne) ∙ g.0, (g.1.0, set_else s.homes i j (some (Some x)) ne ∙ g.1.1, g.1.2)))
            (λ g. inr (held_stays j s.views id v w at live (λ h. without_other j i v.holds ne ∙ h) g))
            (r.each_turn j (subst (λ (z : ℕ). j < z) (length-set s.homes i (some (Some x))) lt))))
            (λ j b g. r.each_refusal id v at live j b g),
        (i, refl, hit, refl),
      ))
      (λ miss. absurd (miss (ok.turn i mine)))

pub given : {Sc En Ob : Type 0} (n i b : ℕ) (m m' : At Sc En Ob) (r : ℕ) → gave (step n (i + 1) b 0 none) m r m' → m' ≡ (giving m.0 i, rest m.1)
given n i b m m' r t = let same : t.0 ≡ i = (let w : i + 1 ≡ t.0 + 1 = t.1 in omega arith) in t.3 ∙ ap (λ j. (giving m.0 j, rest m.1)) same
