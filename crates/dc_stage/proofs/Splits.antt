-- The first pass makes another, and the rule stays.
use Rattle.std.proofs.Common.{◌≡◌, ◌≢◌, ℕ, ◌+◌, ◌<◌, ◌≤◌, ◌⊎◌, true, List, [], ◌∷◌, ◌++◌, length, set, sym, refl, ap, ◌∙◌, subst, inl, inr, ⊎_elim, arith, true≢false}
use mathlib.Core.Option.{some, some-ne-none}
use lib.ListN.{get_elem?}
use Rattle.atomic_table.specs.Table.{Splits}
use Rattle.atomic_table.proofs.Lists.{at_set, at_longer}
use Rattle.dc_stage.specs.Numbers.{has_pair, IsApart}
use Rattle.dc_stage.specs.History.{Meaning, own}
use Rattle.dc_stage.specs.Pasts.{actors_of}
use Rattle.dc_stage.specs.Views.{making, made_of}
use Rattle.dc_stage.specs.Rule.{CrewIsKept, alive_in, ViewIsKept, IsHome, HasTaken, NamesTakersAmong, IsHeld, IsKept}
use Rattle.dc_stage.specs.declared.view.View.{View}
use Rattle.dc_stage.specs.declared.view.Past.{Past}
use Rattle.dc_stage.proofs.Logs.{own_none}
use Rattle.dc_stage.proofs.Views.{there, at_end, one_of, taken_stays, alive_set, held_stays, alive_snoc}

module _ {Wh St En Ob Sc : Type 0} (p : Meaning Wh St En) (state : Ob → St) (sc : Sc) where
  -- the first pass makes another
  pub splits : (id : ℕ) (v : View Sc En) → v.live ≡ true → v.first ≡ true → v.made < 64 → Splits (IsKept p state sc) id v (making v) (made_of v)
  splits id v live first room s r at =
      record { log = r.log; lawful = r.lawful; wide = r.wide; long = r.long; few = r.few; actors = r.actors; each_view = each; apart = apart; each_turn = turns; crew = crew; each_refusal = refusals; past_refusals = past }
    where
      views : List (View Sc En)
      views = set s.views id (making v) ++ made_of v ∷ []

      ok : ViewIsKept p sc r.log s.words v
      ok = r.each_view id v at live

      zero_is : id ≡ 0
      zero_is = r.crew.one id v at first

      same : r.crew.head ≡ v
      same = one_of s.views id r.crew.head v (subst (λ k. get_elem? s.views k ≡ some r.crew.head) (sym zero_is) r.crew.at) at

      -- a view is the new one or was there
      from : (j : ℕ) (u : View Sc En) → get_elem? (set s.views id (making v) ++ made_of v ∷ []) j ≡ some u
          → ((made_of v ≡ u) × (j ≡ length (set s.views id (making v)))) ⊎ ((x : View Sc En) × (get_elem? s.views j ≡ some x) × ((u ≡ x) ⊎ ((u ≡ making v) × (x ≡ v) × (j ≡ id))))
      from j u e = ⊎_elim
          (λ was. inr (⊎_elim
          (λ (x : (j ≡ id) × (making v ≡ u)). (v, subst (λ k. get_elem? s.views k ≡ some v) (sym x.0) at, inr (sym x.1, refl, x.0)))
          (λ (x : (j ≢ id) × (get_elem? s.views j ≡ some u)). (u, x.1, inl refl))
          (at_set s.views id j (making v) u was)))
          (λ new. inl new)
          (at_end (set s.views id (making v)) (made_of v) u j e)

      -- the actor and the mark of a view that was there
      old : (j : ℕ) (u x : View Sc En) → get_elem? s.views j ≡ some x → (u ≡ x) ⊎ ((u ≡ making v) × (x ≡ v) × (j ≡ id)) → (u.actor ≡ x.actor) × (u.live ≡ x.live) × (u.first ≡ x.first) × (u.refused ≡ x.refused) × (u.joined ≡ x.joined)
      old j u x e h = ⊎_elim
          (λ q. (ap (λ (z : View Sc En). z.actor) q, ap (λ (z : View Sc En). z.live) q, ap (λ (z : View Sc En). z.first) q, ap (λ (z : View Sc En). z.refused) q, ap (λ (z : View Sc En). z.joined) q))
          (λ q. (ap (λ (z : View Sc En). z.actor) q.0 ∙ sym (ap (λ (z : View Sc En). z.actor) q.1), ap (λ (z : View Sc En). z.live) q.0 ∙ sym (ap (λ (z : View Sc En). z.live) q.1), ap (λ (z : View Sc En). z.first) q.0 ∙ sym (ap (λ (z : View Sc En). z.first) q.1), ap (λ (z : View Sc En). z.refused) q.0 ∙ sym (ap (λ (z : View Sc En). z.refused) q.1), ap (λ (z : View Sc En). z.joined) q.0 ∙ sym (ap (λ (z : View Sc En). z.joined) q.1)))
          h

      made_is : r.crew.head.made ≡ v.made
      made_is = ap (λ (z : View Sc En). z.made) same

      unused : own v.made r.log ≡ []
      unused = r.crew.unmade v.made (let q : r.crew.head.made ≡ v.made = made_is in omega arith)

      each : (j : ℕ) (u : View Sc En) → get_elem? (set s.views id (making v) ++ made_of v ∷ []) j ≡ some u → u.live ≡ true → ViewIsKept p sc r.log s.words u
      each j u e l = ⊎_elim
          (λ new. subst (ViewIsKept p sc r.log s.words) new.0 record { scene = ok.scene; told = (r.log, refl); sees = ok.sees; mine = unused ∙ sym (own_none v.made v.seen ok.sees.0 (ap (own v.made) ok.sees.1 ∙ unused)); small = room; turn = λ i h. absurd (true≢false (sym h)); same = λ i h. absurd (true≢false (sym h)); ever = λ i h. absurd (true≢false (sym h)) })
          (λ was. ⊎_elim
          (λ q. r.each_view j u (was.1 ∙ ap some (sym q)) l)
          (λ q. subst (ViewIsKept p sc r.log s.words) (sym q.0) record { scene = ok.scene; told = ok.told; sees = ok.sees; mine = ok.mine; small = ok.small; turn = ok.turn; same = ok.same; ever = ok.ever })
          was.2)
          (from j u e)

      apart : (j k : ℕ) (x y : View Sc En) → get_elem? (set s.views id (making v) ++ made_of v ∷ []) j ≡ some x → get_elem? (set s.views id (making v) ++ made_of v ∷ []) k ≡ some y → x.live ≡ true → y.live ≡ true → x.actor ≡ y.actor → j ≡ k
      apart j k x y e f lx ly who = ⊎_elim
          (λ a. ⊎_elim
          (λ b. a.1 ∙ sym b.1)
          (λ b. let t = old k y b.0 b.1 b.2 in let m = r.crew.below k b.0 b.1 (sym t.1 ∙ ly) in let q : v.made ≡ b.0.actor = ap (λ (z : View Sc En). z.actor) a.0 ∙ (who ∙ t.0) in let d : r.crew.head.made ≡ v.made = made_is in absurd (omega arith))
          (from k y f))
          (λ a. let w = old j x a.0 a.1 a.2 in ⊎_elim
          (λ b. let m = r.crew.below j a.0 a.1 (sym w.1 ∙ lx) in let q : a.0.actor ≡ v.made = sym w.0 ∙ (who ∙ sym (ap (λ (z : View Sc En). z.actor) b.0)) in let d : r.crew.head.made ≡ v.made = made_is in absurd (omega arith))
          (λ b. let t = old k y b.0 b.1 b.2 in r.apart j k a.0 b.0 a.1 b.1 (sym w.1 ∙ lx) (sym t.1 ∙ ly) (sym w.0 ∙ (who ∙ t.0)))
          (from k y f))
          (from j x e)

      turns : (i : ℕ) → i < length s.homes → IsHome p state r.log s.words s.homes i ⊎ IsHeld (set s.views id (making v) ++ made_of v ∷ []) i
      turns i lt = ⊎_elim (λ h. inl h) (λ h. let g = held_stays i s.views id v (making v) at live (λ x. x) h in inr (g.0, g.1, at_longer (set s.views id (making v)) (made_of v ∷ []) g.0 g.1 g.2, g.3, g.4)) (r.each_turn i lt)

      crew : CrewIsKept r.log (set s.views id (making v) ++ made_of v ∷ [])
      crew = record {
        head = making v;
        at = at_longer (set s.views id (making v)) (made_of v ∷ []) 0 (making v) (subst (λ k. get_elem? (set s.views id (making v)) k ≡ some (making v)) zero_is (there s.views id v (making v) at));
        alive = live;
        is_first = first;
        few = let q : v.made < 64 = room in omega arith;
        unmade = λ a le. r.crew.unmade a (subst (λ (z : View Sc En). z.made ≤ a) (sym same) (let q : v.made + 1 ≤ a = le in omega arith));
        below = λ j u e l. ⊎_elim
            (λ a. subst (λ (z : ℕ). z < v.made + 1) (ap (λ (z : View Sc En). z.actor) a.0) (let q : v.made < v.made + 1 = omega arith in q))
            (λ a. let w = old j u a.0 a.1 a.2 in let m = r.crew.below j a.0 a.1 (sym w.1 ∙ l) in let d : r.crew.head.made ≡ v.made = made_is in let q : u.actor ≡ a.0.actor = w.0 in omega arith)
            (from j u e);
        one = λ j u e f. ⊎_elim (λ a. absurd (true≢false (sym f ∙ sym (ap (λ (z : View Sc En). z.first) a.0)))) (λ a. let w = old j u a.0 a.1 a.2 in r.crew.one j a.0 a.1 (sym w.2 ∙ f)) (from j u e);
        alone = λ j u e f. ⊎_elim (λ a. ap (λ (z : View Sc En). z.joined) (sym a.0)) (λ a. let w = old j u a.0 a.1 a.2 in w.4 ∙ r.crew.alone j a.0 a.1 (sym w.2 ∙ f)) (from j u e);
        apart = subst (λ (z : View Sc En). IsApart (actors_of z.joined)) same r.crew.apart;
        ended = λ k x e. let z = r.crew.ended k x (ap (λ (t : View Sc En). get_elem? t.joined k) same ∙ e) in let d : r.crew.head.made ≡ v.made = made_is in let low : x.actor < r.crew.head.made = z.1 in (
          z.0,
          (let q : x.actor < v.made + 1 = omega arith in q),
          λ j u e' l. ⊎_elim
              (λ a. λ q. let t : v.made ≡ x.actor = ap (λ (y : View Sc En). y.actor) a.0 ∙ q in absurd (omega arith))
              (λ a. let w = old j u a.0 a.1 a.2 in λ q. z.2 j a.0 a.1 (sym w.1 ∙ l) (sym w.0 ∙ q))
              (from j u e'),
        );
        count = ap (λ z. z + length v.joined) (alive_snoc (set s.views id (making v)) (made_of v) refl) ∙ (let a = alive_set s.views id v (making v) at refl in let b : alive_in s.views + length v.joined ≡ v.made = subst (λ (z : View Sc En). alive_in s.views + length z.joined ≡ z.made) same r.crew.count in omega arith);
      }

      taken : (i a : ℕ) → HasTaken s.views i a → HasTaken (set s.views id (making v) ++ made_of v ∷ []) i a
      taken i a h = let t = taken_stays s.views id v (making v) at live refl (λ k g. g) refl i a h in (t.0, t.1, at_longer (set s.views id (making v)) (made_of v ∷ []) t.0 t.1 t.2, t.3, t.4)

      past : (j : ℕ) (u : View Sc En) → get_elem? (set s.views id (making v) ++ made_of v ∷ []) j ≡ some u → u.live ≡ true → (k : ℕ) (x : Past En) → get_elem? u.joined k ≡ some x → NamesTakersAmong (set s.views id (making v) ++ made_of v ∷ []) x.actor x.refused
      past j u e l k x f i a h = ⊎_elim
          (λ q. absurd (some-ne-none x (sym (ap (λ (z : View Sc En). get_elem? z.joined k) q.0 ∙ f))))
          (λ q. let w = old j u q.0 q.1 q.2 in
          let got = r.past_refusals j q.0 q.1 (sym w.1 ∙ l) k x (ap (λ t. get_elem? t k) (sym w.4) ∙ f) i a h in (got.0, taken i a got.1))
          (from j u e)

      refusals : (j : ℕ) (u : View Sc En) → get_elem? (set s.views id (making v) ++ made_of v ∷ []) j ≡ some u → u.live ≡ true → NamesTakersAmong (set s.views id (making v) ++ made_of v ∷ []) u.actor u.refused
      refusals j u e l i a h = ⊎_elim
          (λ q. absurd (true≢false (sym h ∙ ap (λ (z : View Sc En). has_pair i a z.refused) (sym q.0))))
          (λ q. let w = old j u q.0 q.1 q.2 in
          let got = r.each_refusal j q.0 q.1 (sym w.1 ∙ l) i a (ap (has_pair i a) (sym w.3) ∙ h) in
          ((λ x. got.0 (x ∙ w.0)), taken i a got.1))
          (from j u e)
