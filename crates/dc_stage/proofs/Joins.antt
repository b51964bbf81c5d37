-- Another pass is joined to the first, and the rule stays.
use Rattle.std.proofs.Common.{◌≡◌, ◌≢◌, ℕ, zero, suc, ◌+◌, ◌<◌, ◌≤◌, ◌⊎◌, ◌==◌, ◌||◌, ◌&&◌, ap₂, true, false, cond, List, [], ◌∷◌, length, set, sym, refl, ap, ◌∙◌, subst, inl, inr, ⊎_elim, arith, eq-eqb, true≢false}
use Rattle.std.proofs.Math.Bool.{or-true}
use mathlib.Core.Option.{some, some-injective, some-ne-none}
use mathlib.Core.Logic.{dite}
use native.Mathlib.Decide.{ℕ_discrete}
use lib.ListN.{get_elem?}
use Rattle.atomic_table.specs.Table.{Joins}
use Rattle.atomic_table.proofs.Lists.{at_set, set_else}
use Rattle.dc_stage.specs.Numbers.{has, has_pair, IsApart}
use Rattle.dc_stage.specs.History.{Meaning, own}
use Rattle.dc_stage.specs.Pasts.{actors_of, took_by}
use Rattle.dc_stage.specs.Views.{taking_in, ended, past_of}
use Rattle.dc_stage.specs.Rule.{CrewIsKept, alive_in, ViewIsKept, IsHome, HasTaken, NamesTakersAmong, IsHeld, IsKept}
use Rattle.dc_stage.specs.declared.view.Past.{Past}
use Rattle.dc_stage.specs.declared.view.View.{View}
use Rattle.dc_stage.proofs.Numbers.{not_true}
use Rattle.dc_stage.proofs.Views.{there, one_of, alive_set, counts, at_actor}

alive_less : {Sc En : Type 0} (views : List (View Sc En)) (k : ℕ) (x y : View Sc En) → get_elem? views k ≡ some x → x.live ≡ true → y.live ≡ false → alive_in (set views k y) + 1 ≡ alive_in views
alive_less [] k x y at l d = absurd (some-ne-none x (sym at))
alive_less {Sc} {En} (v ∷ vs) zero x y at l d = let e = counts v (ap (λ (u : View Sc En). u.live) (some-injective v x at) ∙ l) in let f : cond {A = ℕ} y.live 1 0 ≡ 0 = ap (λ b. cond {A = ℕ} b 1 0) d in omega arith
alive_less (v ∷ vs) (suc k) x y at l d = let r = alive_less vs k x y at l d in omega arith

module _ {Wh St En Ob Sc : Type 0} (p : Meaning Wh St En) (state : Ob → St) (sc : Sc) where
  pub joins : (id other : ℕ) (v u : View Sc En) → v.live ≡ true → v.first ≡ true → u.live ≡ true → u.holds ≡ [] → Joins (IsKept p state sc) id v other u (taking_in v u) ended
  joins id other v u lv first lu empty s r at ne at' =
      record { log = r.log; lawful = r.lawful; wide = r.wide; long = r.long; few = r.few; actors = r.actors; each_view = each; apart = apart; each_turn = turns; crew = crew; each_refusal = refusals; past_refusals = past }
    where
      w : View Sc En
      w = taking_in v u

      was : get_elem? s.views other ≡ some u
      was = ⊎_elim (λ (x : (other ≡ id) × (taking_in v u ≡ u)). absurd (ne x.0)) (λ (x : (other ≢ id) × (get_elem? s.views other ≡ some u)). x.1) (at_set s.views id other (taking_in v u) u at')

      here : get_elem? (set (set s.views id (taking_in v u)) other ended) id ≡ some (taking_in v u)
      here = set_else (set s.views id (taking_in v u)) other id ended (λ e. ne (sym e)) ∙ there s.views id v (taking_in v u) at

      elsewhere : (j : ℕ) → j ≢ id → j ≢ other → get_elem? (set (set s.views id (taking_in v u)) other ended) j ≡ get_elem? s.views j
      elsewhere j n m = set_else (set s.views id (taking_in v u)) other j ended m ∙ set_else s.views id j (taking_in v u) n

      -- a view is the one that ended, the first, or as it was
      from : (j : ℕ) (x : View Sc En) → get_elem? (set (set s.views id (taking_in v u)) other ended) j ≡ some x
          → ((j ≡ other) × (ended ≡ x)) ⊎ ((j ≢ other) × (((j ≡ id) × (taking_in v u ≡ x)) ⊎ ((j ≢ id) × (get_elem? s.views j ≡ some x))))
      from j x e = ⊎_elim
          (λ (q : (j ≡ other) × (ended ≡ x)). inl q)
          (λ (q : (j ≢ other) × (get_elem? (set s.views id (taking_in v u)) j ≡ some x)). inr (q.0, at_set s.views id j (taking_in v u) x q.1))
          (at_set (set s.views id (taking_in v u)) other j ended x e)

      -- a live view was live, with its actor
      prior : (j : ℕ) (x : View Sc En) → get_elem? (set (set s.views id (taking_in v u)) other ended) j ≡ some x → x.live ≡ true
          → (y : View Sc En) × (get_elem? s.views j ≡ some y) × (y.live ≡ true) × (y.actor ≡ x.actor) × (j ≢ other)
      prior j x e l = ⊎_elim
          (λ q. absurd (true≢false (sym l ∙ ap (λ (z : View Sc En). z.live) (sym q.1))))
          (λ q. ⊎_elim
          (λ t. (v, ap (get_elem? s.views) t.0 ∙ at, lv, ap (λ (z : View Sc En). z.actor) t.1, q.0))
          (λ t. (x, t.1, l, refl, q.0))
          q.1)
          (from j x e)

      okv : ViewIsKept p sc r.log s.words v
      okv = r.each_view id v at lv

      oku : ViewIsKept p sc r.log s.words u
      oku = r.each_view other u was lu

      zero_is : id ≡ 0
      zero_is = r.crew.one id v at first

      same : r.crew.head ≡ v
      same = one_of s.views id r.crew.head v (subst (λ k. get_elem? s.views k ≡ some r.crew.head) (sym zero_is) r.crew.at) at

      not_first : u.first ≡ false
      not_first = not_true u.first (λ f. ne (r.crew.one other u was f ∙ sym zero_is))

      each : (j : ℕ) (x : View Sc En) → get_elem? (set (set s.views id (taking_in v u)) other ended) j ≡ some x → x.live ≡ true → ViewIsKept p sc r.log s.words x
      each j x e l = ⊎_elim
          (λ q. absurd (true≢false (sym l ∙ ap (λ (z : View Sc En). z.live) (sym q.1))))
          (λ q. ⊎_elim
          (λ t. subst (ViewIsKept p sc r.log s.words) t.1 record { scene = okv.scene; told = oku.sees; sees = okv.sees; mine = okv.mine; small = okv.small; turn = okv.turn; same = okv.same; ever = okv.ever })
          (λ t. r.each_view j x t.1 l)
          q.1)
          (from j x e)

      apart : (j k : ℕ) (x y : View Sc En) → get_elem? (set (set s.views id (taking_in v u)) other ended) j ≡ some x → get_elem? (set (set s.views id (taking_in v u)) other ended) k ≡ some y → x.live ≡ true → y.live ≡ true → x.actor ≡ y.actor → j ≡ k
      apart j k x y e f lx ly who = let a = prior j x e lx in let b = prior k y f ly in r.apart j k a.0 b.0 a.1 b.1 a.2 b.2 (a.3 ∙ (who ∙ sym b.3))

      turns : (i : ℕ) → i < length s.homes → IsHome p state r.log s.words s.homes i ⊎ IsHeld (set (set s.views id (taking_in v u)) other ended) i
      turns i lt = ⊎_elim (λ h. inl h) (λ (h : IsHeld s.views i). inr (dite (ℕ_discrete h.0 other)
          (λ e. absurd (true≢false (sym h.4 ∙ (ap (λ (z : View Sc En). has i z.holds) (one_of s.views other h.1 u (subst (λ k. get_elem? s.views k ≡ some h.1) e h.2) was) ∙ ap (has i) empty))))
          (λ n. dite (ℕ_discrete h.0 id)
          (λ e. (id, taking_in v u, here, lv, subst (λ (z : View Sc En). has i z.holds ≡ true) (one_of s.views id h.1 v (subst (λ k. get_elem? s.views k ≡ some h.1) e h.2) at) h.4))
          (λ m. (h.0, h.1, elsewhere h.0 m n ∙ h.2, h.3, h.4))))) (r.each_turn i lt)

      taken : (i a : ℕ) → HasTaken s.views i a → HasTaken (set (set s.views id (taking_in v u)) other ended) i a
      taken i a h = dite (ℕ_discrete h.0 other)
          (λ e. let q : h.1 ≡ u = one_of s.views other h.1 u (subst (λ k. get_elem? s.views k ≡ some h.1) e h.2) was in ⊎_elim
          (λ (x : (h.1.actor ≡ a) × (has i h.1.took ≡ true)). (id, taking_in v u, here, lv, inr (ap₂ (λ b c. (b && c) || took_by i a v.joined) (eq-eqb a u.actor (sym x.0 ∙ ap (λ (z : View Sc En). z.actor) q)) (ap (λ (z : View Sc En). has i z.took) (sym q) ∙ x.1))))
          (λ (x : took_by i a h.1.joined ≡ true). absurd (true≢false (sym x ∙ (ap (λ (z : View Sc En). took_by i a z.joined) q ∙ ap (took_by i a) (r.crew.alone other u was not_first)))))
          h.4)
          (λ n. dite (ℕ_discrete h.0 id)
          (λ e. let q : h.1 ≡ v = one_of s.views id h.1 v (subst (λ k. get_elem? s.views k ≡ some h.1) e h.2) at in (
            id,
            taking_in v u,
            here,
            lv,
            ⊎_elim
                (λ (x : (h.1.actor ≡ a) × (has i h.1.took ≡ true)). inl (ap (λ (z : View Sc En). z.actor) (sym q) ∙ x.0, ap (λ (z : View Sc En). has i z.took) (sym q) ∙ x.1))
                (λ (x : took_by i a h.1.joined ≡ true). inr (ap (λ b. ((a == u.actor) && has i u.took) || b) (ap (λ (z : View Sc En). took_by i a z.joined) (sym q) ∙ x) ∙ or-true ((a == u.actor) && has i u.took)))
                h.4,
          ))
          (λ m. (h.0, h.1, elsewhere h.0 m n ∙ h.2, h.3, h.4)))

      refusals : (j : ℕ) (x : View Sc En) → get_elem? (set (set s.views id (taking_in v u)) other ended) j ≡ some x → x.live ≡ true → NamesTakersAmong (set (set s.views id (taking_in v u)) other ended) x.actor x.refused
      refusals j x e l i a h = ⊎_elim
          (λ q. absurd (true≢false (sym l ∙ ap (λ (z : View Sc En). z.live) (sym q.1))))
          (λ q. ⊎_elim
          (λ t. let g = r.each_refusal id v at lv i a (subst (λ (z : View Sc En). has_pair i a z.refused ≡ true) (sym t.1) h) in ((λ y. g.0 (y ∙ ap (λ (z : View Sc En). z.actor) (sym t.1))), taken i a g.1))
          (λ t. let g = r.each_refusal j x t.1 l i a h in (g.0, taken i a g.1))
          q.1)
          (from j x e)

      -- the refused takes of those that ended, with the one that ends now
      past_of_first : (k : ℕ) (x : Past En) → get_elem? (past_of u ∷ v.joined) k ≡ some x → NamesTakersAmong (set (set s.views id (taking_in v u)) other ended) x.actor x.refused
      past_of_first zero x e i a h = let q : past_of u ≡ x = some-injective (past_of u) x e in
          let g = r.each_refusal other u was lu i a (ap (λ (z : Past En). has_pair i a z.refused) q ∙ h) in ((λ y. g.0 (y ∙ ap (λ (z : Past En). z.actor) (sym q))), taken i a g.1)
      past_of_first (suc k) x e i a h = let g = r.past_refusals id v at lv k x e i a h in (g.0, taken i a g.1)

      past : (j : ℕ) (x : View Sc En) → get_elem? (set (set s.views id (taking_in v u)) other ended) j ≡ some x → x.live ≡ true → (k : ℕ) (y : Past En) → get_elem? x.joined k ≡ some y → NamesTakersAmong (set (set s.views id (taking_in v u)) other ended) y.actor y.refused
      past j x e l k y f = ⊎_elim
          (λ q. absurd (true≢false (sym l ∙ ap (λ (z : View Sc En). z.live) (sym q.1))))
          (λ q. ⊎_elim
          (λ t. past_of_first k y (ap (λ (z : View Sc En). get_elem? z.joined k) t.1 ∙ f))
          (λ t. λ i a h. let g = r.past_refusals j x t.1 l k y f i a h in (g.0, taken i a g.1))
          q.1)
          (from j x e)

      -- those that ended, with the one that ends now
      gone : (k : ℕ) (x : Past En) → get_elem? (past_of u ∷ v.joined) k ≡ some x
          → (own x.actor r.log ≡ x.entries) × (x.actor < v.made) × ((j : ℕ) (y : View Sc En) → get_elem? (set (set s.views id (taking_in v u)) other ended) j ≡ some y → y.live ≡ true → y.actor ≢ x.actor)
      gone zero x e = subst (λ (z : Past En). (own z.actor r.log ≡ z.entries) × (z.actor < v.made) × ((j : ℕ) (y : View Sc En) → get_elem? (set (set s.views id (taking_in v u)) other ended) j ≡ some y → y.live ≡ true → y.actor ≢ z.actor)) (some-injective (past_of u) x e)
          (oku.mine, subst (λ (z : View Sc En). u.actor < z.made) same (r.crew.below other u was lu), λ j y f l who. let q = prior j y f l in q.4 (r.apart j other q.0 u q.1 was q.2 lu (q.3 ∙ who)))
      gone (suc k) x e = let z = r.crew.ended k x (ap (λ (t : View Sc En). get_elem? t.joined k) same ∙ e) in
          (z.0, subst (λ (t : View Sc En). x.actor < t.made) same z.1, λ j y f l who. let q = prior j y f l in z.2 j q.0 q.1 q.2 (q.3 ∙ who))

      absent : has u.actor (actors_of v.joined) ≡ false
      absent = not_true (has u.actor (actors_of v.joined)) (λ h. let q = at_actor u.actor v.joined h in (r.crew.ended q.0 q.1 (ap (λ (t : View Sc En). get_elem? t.joined q.0) same ∙ q.2)).2 other u was lu q.3)

      crew : CrewIsKept r.log (set (set s.views id (taking_in v u)) other ended)
      crew = record {
        head = taking_in v u;
        at = subst (λ k. get_elem? (set (set s.views id (taking_in v u)) other ended) k ≡ some (taking_in v u)) zero_is here;
        alive = lv;
        is_first = first;
        few = subst (λ (z : View Sc En). z.made ≤ 64) same r.crew.few;
        unmade = λ a le. r.crew.unmade a (subst (λ (z : View Sc En). z.made ≤ a) (sym same) le);
        below = λ j x e l. let q = prior j x e l in subst (λ (z : ℕ). z < v.made) q.3 (subst (λ (z : View Sc En). q.0.actor < z.made) same (r.crew.below j q.0 q.1 q.2));
        one = λ j x e f. ⊎_elim (λ q. absurd (true≢false (sym f ∙ ap (λ (z : View Sc En). z.first) (sym q.1)))) (λ q. ⊎_elim (λ t. t.0 ∙ zero_is) (λ t. r.crew.one j x t.1 f) q.1) (from j x e);
        alone = λ j x e f. ⊎_elim (λ q. ap (λ (z : View Sc En). z.joined) (sym q.1)) (λ q. ⊎_elim (λ t. absurd (true≢false (sym first ∙ (ap (λ (z : View Sc En). z.first) t.1 ∙ f)))) (λ t. r.crew.alone j x t.1 f) q.1) (from j x e);
        ended = gone;
        apart = (absent, subst (λ (z : View Sc En). IsApart (actors_of z.joined)) same r.crew.apart);
        count = let a = alive_set s.views id v (taking_in v u) at refl in let b = alive_less (set s.views id (taking_in v u)) other u ended at' lu refl in
            let c : alive_in s.views + length v.joined ≡ v.made = subst (λ (z : View Sc En). alive_in s.views + length z.joined ≡ z.made) same r.crew.count in omega arith;
      }
