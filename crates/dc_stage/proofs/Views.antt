-- What stays of a list of views where one of them changes.
use Rattle.std.proofs.Common.{◌≡◌, ◌≢◌, ℕ, zero, suc, ◌+◌, ◌^◌, ◌<◌, ◌≤◌, ◌⊎◌, ap₂, Bool, true, false, cond, List, [], ◌∷◌, ◌++◌, length, set, sym, refl, ap, ◌∙◌, subst, inl, inr, ⊎_elim, arith, true≢false}
use Rattle.std.specs.Prelude.{slice_index, Option}
use mathlib.Core.Option.{none, some, some-injective, some-ne-none}
use mathlib.Core.Option as maybe
use mathlib.Core.Logic.{dite}
use native.Mathlib.Decide.{ℕ_discrete}
use lib.ListN.{get_elem?}
use Rattle.atomic_table.specs.Table.{State}
use Rattle.atomic_table.proofs.Lists.{at_set, set_else}
use Rattle.dc_stage.specs.Numbers.{has, has_pair, IsApart}
use Rattle.dc_stage.specs.History.{Meaning, Log, own, IsLawful}
use Rattle.dc_stage.specs.Pasts.{EachOwn, actors_of, took_by}
use Rattle.dc_stage.specs.Rule.{CrewIsKept, alive_in, ViewIsKept, IsHome, HasTaken, NamesTakersAmong, IsHeld, IsKept}
use Rattle.dc_stage.specs.declared.view.Past.{Past}
use Rattle.dc_stage.specs.declared.view.View.{View}
use Rattle.dc_stage.proofs.Numbers.{has_cons}

pub there : {A : Type 0} (l : List A) (i : ℕ) (a b : A) → get_elem? l i ≡ some a → get_elem? (set l i b) i ≡ some b
there [] i a b e = absurd (some-ne-none a (sym e))
there (x ∷ xs) zero a b e = refl
there (x ∷ xs) (suc i) a b e = there xs i a b e

pub at_end : {A : Type 0} (l : List A) (a b : A) (j : ℕ) → get_elem? (l ++ a ∷ []) j ≡ some b → (get_elem? l j ≡ some b) ⊎ ((a ≡ b) × (j ≡ length l))
at_end [] a b zero e = inr (some-injective a b e, refl)
at_end [] a b (suc j) e = absurd (some-ne-none b (sym e))
at_end (x ∷ xs) a b zero e = inl e
at_end (x ∷ xs) a b (suc j) e = ⊎_elim (λ q. inl q) (λ q. inr (q.0, ap suc q.1)) (at_end xs a b j e)

pub one_of : {A : Type 0} (l : List A) (i : ℕ) (a b : A) → get_elem? l i ≡ some a → get_elem? l i ≡ some b → a ≡ b
one_of l i a b e f = some-injective a b (sym e ∙ f)

pub each_own : {En : Type 0} → (log : Log En) (xs : List (Past En)) → ((k : ℕ) (x : Past En) → get_elem? xs k ≡ some x → own x.actor log ≡ x.entries) → EachOwn xs log
each_own log [] h = tt
each_own log (x ∷ xs) h = (h 0 x refl, each_own log xs (λ k y e. h (suc k) y e))

-- an actor that ended is that of one that was kept
pub at_actor : {En : Type 0} (a : ℕ) (xs : List (Past En)) → has a (actors_of xs) ≡ true → (k : ℕ) × (x : Past En) × (get_elem? xs k ≡ some x) × (a ≡ x.actor)
at_actor a [] h = absurd (true≢false (sym h))
at_actor a (x ∷ xs) h = ⊎_elim (λ e. (0, x, refl, e)) (λ t. let r = at_actor a xs t in (suc r.0, r.1, r.2, r.3)) (has_cons a x.actor (actors_of xs) h)

module _ {Sc En : Type 0} where
  pub taken_stays : (views : List (View Sc En)) (id : ℕ) (v w : View Sc En) → get_elem? views id ≡ some v → w.live ≡ true → w.actor ≡ v.actor → ((i : ℕ) → has i v.took ≡ true → has i w.took ≡ true) → w.joined ≡ v.joined
      → (i a : ℕ) → HasTaken views i a → HasTaken (set views id w) i a
  taken_stays views id v w at live who more gone i a h = dite (ℕ_discrete h.0 id)
      (λ e. let same : h.1 ≡ v = one_of views id h.1 v (subst (λ j. get_elem? views j ≡ some h.1) e h.2) at in (
        id,
        w,
        there views id v w at,
        live,
        ⊎_elim
            (λ (x : (h.1.actor ≡ a) × (has i h.1.took ≡ true)). inl (who ∙ (sym (ap (λ (u : View Sc En). u.actor) same) ∙ x.0), more i (subst (λ (u : View Sc En). has i u.took ≡ true) same x.1)))
            (λ (x : took_by i a h.1.joined ≡ true). inr (ap (took_by i a) (gone ∙ sym (ap (λ (u : View Sc En). u.joined) same)) ∙ x))
            h.4,
      ))
      (λ n. (h.0, h.1, set_else views id h.0 w n ∙ h.2, h.3, h.4))

  pub alive_set : (views : List (View Sc En)) (id : ℕ) (v w : View Sc En) → get_elem? views id ≡ some v → w.live ≡ v.live → alive_in (set views id w) ≡ alive_in views
  alive_set [] id v w at e = refl
  alive_set (x ∷ xs) zero v w at e = ap (λ b. cond b 1 0 + alive_in xs) (e ∙ sym (ap (λ (u : View Sc En). u.live) (some-injective x v at)))
  alive_set (x ∷ xs) (suc id) v w at e = ap (λ z. cond x.live 1 0 + z) (alive_set xs id v w at e)

  pub counts : (x : View Sc En) → x.live ≡ true → cond {A = ℕ} x.live 1 0 ≡ 1
  counts x l = ap (λ b. cond {A = ℕ} b 1 0) l

  one_alive : (views : List (View Sc En)) (j : ℕ) (v : View Sc En) → get_elem? views j ≡ some v → v.live ≡ true → 1 ≤ alive_in views
  one_alive [] j v at l = absurd (some-ne-none v (sym at))
  one_alive (x ∷ xs) zero v at l = let e = counts x (ap (λ (u : View Sc En). u.live) (some-injective x v at) ∙ l) in omega arith
  one_alive (x ∷ xs) (suc j) v at l = let r = one_alive xs j v at l in omega arith

  -- two live views are two
  pub two_alive : (views : List (View Sc En)) (j k : ℕ) (v w : View Sc En) → get_elem? views j ≡ some v → get_elem? views k ≡ some w → v.live ≡ true → w.live ≡ true → j ≢ k → 2 ≤ alive_in views
  two_alive [] j k v w at at' l l' n = absurd (some-ne-none v (sym at))
  two_alive (x ∷ xs) zero zero v w at at' l l' n = absurd (n refl)
  two_alive (x ∷ xs) zero (suc k) v w at at' l l' n = let e = counts x (ap (λ (u : View Sc En). u.live) (some-injective x v at) ∙ l) in let r = one_alive xs k w at' l' in omega arith
  two_alive (x ∷ xs) (suc j) zero v w at at' l l' n = let e = counts x (ap (λ (u : View Sc En). u.live) (some-injective x w at') ∙ l') in let r = one_alive xs j v at l in omega arith
  two_alive (x ∷ xs) (suc j) (suc k) v w at at' l l' n = let r = two_alive xs j k v w at at' l l' (λ e. n (ap suc e)) in omega arith

  -- which view it was before
  pub was : (views : List (View Sc En)) (id : ℕ) (v w : View Sc En) → get_elem? views id ≡ some v → w.live ≡ v.live → w.actor ≡ v.actor → w.first ≡ v.first → w.joined ≡ v.joined
      → (j : ℕ) (u : View Sc En) → get_elem? (set views id w) j ≡ some u → (x : View Sc En) × (get_elem? views j ≡ some x) × (x.actor ≡ u.actor) × (x.live ≡ u.live) × (x.first ≡ u.first) × (x.joined ≡ u.joined)
  was views id v w at live who first gone j u e = ⊎_elim
      (λ (x : (j ≡ id) × (w ≡ u)). (v, subst (λ k. get_elem? views k ≡ some v) (sym x.0) at, sym who ∙ ap (λ (y : View Sc En). y.actor) x.1, sym live ∙ ap (λ (y : View Sc En). y.live) x.1, sym first ∙ ap (λ (y : View Sc En). y.first) x.1, sym gone ∙ ap (λ (y : View Sc En). y.joined) x.1))
      (λ (x : (j ≢ id) × (get_elem? views j ≡ some u)). (u, x.1, refl, refl, refl, refl))
      (at_set views id j w u e)

  pub crew_stays : (log log' : Log En) (views : List (View Sc En)) (c : CrewIsKept log views) (id : ℕ) (v w : View Sc En) → get_elem? views id ≡ some v → v.live ≡ true → w.live ≡ v.live → w.actor ≡ v.actor → w.first ≡ v.first → w.made ≡ v.made → w.joined ≡ v.joined
      → ((b : ℕ) → b ≢ v.actor → own b log' ≡ own b log) → CrewIsKept log' (set views id w)
  crew_stays log log' views c id v w at l live who first made joined others = dite (ℕ_discrete 0 id)
      (λ e. let same : c.head ≡ v = one_of views id c.head v (subst (λ k. get_elem? views k ≡ some c.head) e c.at) at in
      all w (subst (λ k. get_elem? (set views id w) k ≡ some w) (sym e) (there views id v w at)) (live ∙ (sym (ap (λ (u : View Sc En). u.live) same) ∙ c.alive)) (first ∙ (sym (ap (λ (u : View Sc En). u.first) same) ∙ c.is_first)) (made ∙ sym (ap (λ (u : View Sc En). u.made) same)) (joined ∙ sym (ap (λ (u : View Sc En). u.joined) same)))
      (λ n. all c.head (set_else views id 0 w n ∙ c.at) c.alive c.is_first refl refl)
    where
      back : (j : ℕ) (u : View Sc En) → get_elem? (set views id w) j ≡ some u → (x : View Sc En) × (get_elem? views j ≡ some x) × (x.actor ≡ u.actor) × (x.live ≡ u.live) × (x.first ≡ u.first) × (x.joined ≡ u.joined)
      back = was views id v w at live who first joined

      mine_below : v.actor < c.head.made
      mine_below = c.below id v at l

      all : (h : View Sc En) → get_elem? (set views id w) 0 ≡ some h → h.live ≡ true → h.first ≡ true → h.made ≡ c.head.made → h.joined ≡ c.head.joined → CrewIsKept log' (set views id w)
      all h at' l' f m g = record {
        head = h;
        at = at';
        alive = l';
        is_first = f;
        few = subst (λ (z : ℕ). z ≤ 64) (sym m) c.few;
        unmade = λ a le. let x : c.head.made ≤ a = subst (λ (z : ℕ). z ≤ a) m le in others a (λ e. let q : v.actor < c.head.made = mine_below in omega arith) ∙ c.unmade a x;
        below = λ j u e lu. let x = back j u e in subst (λ (z : ℕ × ℕ). z.0 < z.1) (λ k. (x.2 k, sym m k)) (c.below j x.0 x.1 (x.3 ∙ lu));
        one = λ j u e fu. let x = back j u e in c.one j x.0 x.1 (x.4 ∙ fu);
        alone = λ j u e fu. let x = back j u e in sym x.5 ∙ c.alone j x.0 x.1 (x.4 ∙ fu);
        apart = subst (λ t. IsApart (actors_of t)) (sym g) c.apart;
        ended = λ k y e. let z = c.ended k y (ap (λ t. get_elem? t k) (sym g) ∙ e) in
            (others y.actor (λ q. z.2 id v at l (sym q)) ∙ z.0, subst (λ (t : ℕ). y.actor < t) (sym m) z.1, λ j u e' lu. let x = back j u e' in λ q. z.2 j x.0 x.1 (x.3 ∙ lu) (x.2 ∙ q));
        count = ap₂ (λ a b. a + length b) (alive_set views id v w at live) g ∙ (c.count ∙ sym m);
      }

  pub held_stays : (i : ℕ) (views : List (View Sc En)) (id : ℕ) (v w : View Sc En) → get_elem? views id ≡ some v → w.live ≡ true → (has i v.holds ≡ true → has i w.holds ≡ true) → IsHeld views i → IsHeld (set views id w) i
  held_stays i views id v w at live more h = dite (ℕ_discrete h.0 id)
      (λ e. let same : h.1 ≡ v = one_of views id h.1 v (subst (λ j. get_elem? views j ≡ some h.1) e h.2) at in (id, w, there views id v w at, live, more (subst (λ (u : View Sc En). has i u.holds ≡ true) same h.4)))
      (λ n. (h.0, h.1, set_else views id h.0 w n ∙ h.2, h.3, h.4))

  pub alive_snoc : (views : List (View Sc En)) (w : View Sc En) → w.live ≡ true → alive_in (views ++ w ∷ []) ≡ alive_in views + 1
  alive_snoc [] w l = let e = counts w l in omega arith
  alive_snoc (x ∷ xs) w l = let r = alive_snoc xs w l in omega arith

  -- the history has just the entries that the view keeps of those that were joined to it
  pub recalls : (log : Log En) (views : List (View Sc En)) (c : CrewIsKept log views) (id : ℕ) (v : View Sc En) → get_elem? views id ≡ some v → EachOwn v.joined log
  recalls log views c id v at = by_mark v.first refl
    where
      by_mark : (b : Bool) → v.first ≡ b → EachOwn v.joined log
      by_mark true f = let same : c.head ≡ v = one_of views id c.head v (subst (λ j. get_elem? views j ≡ some c.head) (sym (c.one id v at f)) c.at) at in
          each_own log v.joined (λ k x e. (c.ended k x (ap (λ (u : View Sc En). get_elem? u.joined k) same ∙ e)).0)
      by_mark false f = subst (λ t. EachOwn t log) (sym (c.alone id v at f)) tt

module _ {Wh St En Ob Sc : Type 0} (p : Meaning Wh St En) (state : Ob → St) (sc : Sc) where
  -- one view changes, and the rule stays
  pub moved : (s : State (Option Ob) (View Sc En)) (r : IsKept p state sc s) (id : ℕ) (v w : View Sc En) (words : List ℕ) (homes : List (maybe.Option (Option Ob))) (log : Log En)
      → get_elem? s.views id ≡ some v → v.live ≡ true → w.live ≡ true → w.actor ≡ v.actor → w.joined ≡ v.joined → ((i : ℕ) → has i v.took ≡ true → has i w.took ≡ true)
      → IsLawful p log → CrewIsKept log (set s.views id w) → length words ≡ length homes + 1 → slice_index words 0 ≡ length log → ((a : ℕ) → length (own a log) ≤ 2 ^ 56) → ((a : ℕ) → 64 ≤ a → own a log ≡ [])
      → ViewIsKept p sc log words w → ((j : ℕ) (u : View Sc En) → j ≢ id → get_elem? s.views j ≡ some u → u.live ≡ true → ViewIsKept p sc log words u)
      → ((i : ℕ) → i < length homes → IsHome p state log words homes i ⊎ IsHeld (set s.views id w) i)
      → NamesTakersAmong s.views w.actor w.refused
      → IsKept p state sc record { words = words; homes = homes; views = set s.views id w }
  moved s r id v w words homes log at live live' who gone more lawful crew wide long few actors mine others turns refused =
      record { log = log; lawful = lawful; crew = crew; wide = wide; long = long; few = few; actors = actors; each_view = each; apart = apart; each_turn = turns; each_refusal = refusals; past_refusals = past }
    where
      each : (j : ℕ) (u : View Sc En) → get_elem? (set s.views id w) j ≡ some u → u.live ≡ true → ViewIsKept p sc log words u
      each j u e l = ⊎_elim (λ (x : (j ≡ id) × (w ≡ u)). subst (ViewIsKept p sc log words) x.1 mine) (λ (x : (j ≢ id) × (get_elem? s.views j ≡ some u)). others j u x.0 x.1 l) (at_set s.views id j w u e)

      -- whose view it was before
      prior : (j : ℕ) (u : View Sc En) → get_elem? (set s.views id w) j ≡ some u → (x : View Sc En) × (get_elem? s.views j ≡ some x) × (x.actor ≡ u.actor) × (u.live ≡ true → x.live ≡ true)
      prior j u e = ⊎_elim
          (λ (x : (j ≡ id) × (w ≡ u)). (v, subst (λ k. get_elem? s.views k ≡ some v) (sym x.0) at, sym who ∙ ap (λ (y : View Sc En). y.actor) x.1, λ _. live))
          (λ (x : (j ≢ id) × (get_elem? s.views j ≡ some u)). (u, x.1, refl, λ l. l))
          (at_set s.views id j w u e)

      apart : (j k : ℕ) (x y : View Sc En) → get_elem? (set s.views id w) j ≡ some x → get_elem? (set s.views id w) k ≡ some y → x.live ≡ true → y.live ≡ true → x.actor ≡ y.actor → j ≡ k
      apart j k x y e f lx ly same = let a = prior j x e in let b = prior k y f in r.apart j k a.0 b.0 a.1 b.1 (a.3 lx) (b.3 ly) (a.2 ∙ (same ∙ sym b.2))

      past : (j : ℕ) (u : View Sc En) → get_elem? (set s.views id w) j ≡ some u → u.live ≡ true → (k : ℕ) (x : Past En) → get_elem? u.joined k ≡ some x → NamesTakersAmong (set s.views id w) x.actor x.refused
      past j u e l k x f i a h =
          let got = ⊎_elim
          (λ (y : (j ≡ id) × (w ≡ u)). r.past_refusals id v at live k x (ap (λ t. get_elem? t k) (sym gone ∙ ap (λ (z : View Sc En). z.joined) y.1) ∙ f) i a h)
          (λ (y : (j ≢ id) × (get_elem? s.views j ≡ some u)). r.past_refusals j u y.1 l k x f i a h)
          (at_set s.views id j w u e)
          in (got.0, taken_stays s.views id v w at live' who more gone i a got.1)

      refusals : (j : ℕ) (u : View Sc En) → get_elem? (set s.views id w) j ≡ some u → u.live ≡ true → NamesTakersAmong (set s.views id w) u.actor u.refused
      refusals j u e l i a h =
          let got = ⊎_elim
          (λ (x : (j ≡ id) × (w ≡ u)). subst (λ (y : View Sc En). (a ≢ y.actor) × HasTaken s.views i a) x.1 (refused i a (subst (λ (y : View Sc En). has_pair i a y.refused ≡ true) (sym x.1) h)))
          (λ (x : (j ≢ id) × (get_elem? s.views j ≡ some u)). r.each_refusal j u x.1 l i a h)
          (at_set s.views id j w u e)
          in (got.0, taken_stays s.views id v w at live' who more gone i a got.1)
