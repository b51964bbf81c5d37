-- At the close the first pass has seen the whole history, and all objects are at home.
use Rattle.std.proofs.Common.{◌≡◌, ◌≢◌, ℕ, zero, suc, ◌+◌, ◌<◌, ◌≤◌, ◌==◌, ◌||◌, ◌&&◌, Bool, true, false, List, [], ◌∷◌, ◌++◌, length, sym, refl, ap, ap₂, ◌∙◌, subst, ⊎_elim, arith, append-nil, eq-eqb, ne_eqb, true≢false}
use Rattle.std.specs.Prelude.{Option, Some}
use Rattle.std.proofs.Math.Bool.{or-true}
use mathlib.Core.Option.{some, some-injective}
use mathlib.Core.Logic.{dite}
use native.Mathlib.Decide.{ℕ_discrete, dec_le}
use lib.ListN.{get_elem?}
use Rattle.atomic_table.specs.Table.{Final, Seen, State}
use Rattle.dc_stage.specs.Numbers.{has, has_pair, IsApart, IsBelow}
use Rattle.dc_stage.specs.History.{Meaning, Log, own, after, IsLawful}
use Rattle.dc_stage.specs.Pasts.{EachOwn, actors_of, took_by}
use Rattle.dc_stage.specs.Views.{past_of}
use Rattle.dc_stage.specs.Rule.{alive_in, IsHome, HasTaken, IsHeld, IsKept}
use Rattle.dc_stage.specs.Passes.{Known, IsAlone, NamesTakers}
use Rattle.dc_stage.specs.Carried.{known_of}
use Rattle.dc_stage.specs.Calls.{SeesAll}
use Rattle.dc_stage.specs.declared.view.Past.{Past}
use Rattle.dc_stage.specs.declared.view.View.{View}
use Rattle.dc_stage.proofs.Numbers.{few_below, not_true, has_cons, has_head, has_tail}
use Rattle.dc_stage.proofs.Logs.{own_none, own_rest, own_hit}
use Rattle.dc_stage.proofs.Views.{one_of, two_alive, recalls, at_actor}
use Rattle.atomic_table.specs.Seated.{TableId}

length_actors : {En : Type 0} (xs : List (Past En)) → length (actors_of xs) ≡ length xs
length_actors [] = refl
length_actors (x ∷ xs) = ap suc (length_actors xs)

-- two logs with just these entries have the same of each of their actors
each_same : {En : Type 0} (a : ℕ) (xs : List (Past En)) (log seen : Log En) → EachOwn xs log → EachOwn xs seen → has a (actors_of xs) ≡ true → own a log ≡ own a seen
each_same a [] log seen l s h = absurd (true≢false (sym h))
each_same a (x ∷ xs) log seen l s h = ⊎_elim
    (λ (e : a ≡ x.actor). ap (λ z. own z log) e ∙ (l.0 ∙ (sym s.0 ∙ ap (λ z. own z seen) (sym e))))
    (λ t. each_same a xs log seen l.1 s.1 t)
    (has_cons a x.actor (actors_of xs) h)

no_rest : {En : Type 0} (rest : Log En) → ((a : ℕ) → own a rest ≡ []) → rest ≡ []
no_rest [] h = refl
no_rest (e ∷ es) h = absurd (let l = ap length (sym (own_hit e.0 e es refl) ∙ h e.0) in omega arith)

module _ {Wh St En Ob Sc : Type 0} (p : Meaning Wh St En) (state : Ob → St) (sc : Sc) (s : State (Option Ob) (View Sc En)) (r : IsKept p state sc s) (id : ℕ) (v : View Sc En) (at : get_elem? s.views id ≡ some v)
    (live : v.live ≡ true) (first : v.first ≡ true) (alone : v.made ≡ length v.joined + 1) (empty : v.holds ≡ []) (joined : EachOwn v.joined v.seen) where
  is_head : r.crew.head ≡ v
  is_head = one_of s.views id r.crew.head v (subst (λ k. get_elem? s.views k ≡ some r.crew.head) (sym (r.crew.one id v at first)) r.crew.at) at

  ended_of : (k : ℕ) (x : Past En) → get_elem? v.joined k ≡ some x → (x.actor < v.made) × (v.actor ≢ x.actor)
  ended_of k x e = let z = r.crew.ended k x (ap (λ (t : View Sc En). get_elem? t.joined k) is_head ∙ e) in (subst (λ (t : View Sc En). x.actor < t.made) is_head z.1, z.2 id v at live)

  below_made : v.actor < v.made
  below_made = subst (λ (t : View Sc En). v.actor < t.made) is_head (r.crew.below id v at live)

  apart_names : IsApart (actors_of v.joined)
  apart_names = subst (λ (t : View Sc En). IsApart (actors_of t.joined)) is_head r.crew.apart

  not_joined : has v.actor (actors_of v.joined) ≡ false
  not_joined = not_true (has v.actor (actors_of v.joined)) (λ m. let q = at_actor v.actor v.joined m in (ended_of q.0 q.1 q.2).1 q.3)

  -- each actor that was made is this one or ended
  was_joined : (a : ℕ) → a < v.made → a ≢ v.actor → has a (actors_of v.joined) ≡ true
  was_joined a lt n = by_has (has a (actors_of v.joined)) refl
    where
      by_has : (b : Bool) → has a (actors_of v.joined) ≡ b → has a (actors_of v.joined) ≡ true
      by_has true h = h
      by_has false h =
          let out : has a (v.actor ∷ actors_of v.joined) ≡ false = ap (λ b. b || has a (actors_of v.joined)) (ne_eqb a v.actor n) ∙ h in
          let low : IsBelow v.made (a ∷ v.actor ∷ actors_of v.joined) = λ i g. ⊎_elim
          (λ (e : i ≡ a). subst (λ (z : ℕ). z < v.made) (sym e) lt)
          (λ t. ⊎_elim
          (λ (e : i ≡ v.actor). subst (λ (z : ℕ). z < v.made) (sym e) below_made)
          (λ u. let q = at_actor i v.joined u in subst (λ (z : ℕ). z < v.made) (sym q.3) (ended_of q.0 q.1 q.2).0)
          (has_cons i v.actor (actors_of v.joined) t))
          (has_cons i a (v.actor ∷ actors_of v.joined) g) in
          let many = few_below v.made (a ∷ v.actor ∷ actors_of v.joined) (out, (not_joined, apart_names)) low in let l = length_actors v.joined in absurd (omega (arith, alone))

  each_actor : (a : ℕ) → own a r.log ≡ own a v.seen
  each_actor a = dite (dec_le v.made a)
      (λ le. let none : own a r.log ≡ [] = r.crew.unmade a (subst (λ (t : View Sc En). t.made ≤ a) (sym is_head) le) in
      let sees = (r.each_view id v at live).sees in none ∙ sym (own_none a v.seen sees.0 (ap (own a) sees.1 ∙ none)))
      (λ lt. dite (ℕ_discrete a v.actor)
      (λ e. ap (λ z. own z r.log) e ∙ ((r.each_view id v at live).mine ∙ ap (λ z. own z v.seen) (sym e)))
      (λ n. each_same a v.joined r.log v.seen (recalls r.log s.views r.crew id v at) joined (was_joined a (omega arith) n)))

  pub whole : r.log ≡ v.seen
  whole = let sees = (r.each_view id v at live).sees in
      sym sees.1 ∙ (ap (λ z. v.seen ++ z) (no_rest sees.0 (λ a. own_rest a v.seen sees.0 (ap (own a) sees.1 ∙ each_actor a))) ∙ append-nil v.seen)

  -- this view alone is live
  is_only : (j : ℕ) (u : View Sc En) → get_elem? s.views j ≡ some u → u.live ≡ true → u ≡ v
  is_only j u e l = dite (ℕ_discrete j id)
      (λ q. one_of s.views id u v (subst (λ k. get_elem? s.views k ≡ some u) q e) at)
      (λ n. let two = two_alive s.views j id u v e at l live n in
      let count : alive_in s.views + length v.joined ≡ v.made = subst (λ (z : View Sc En). alive_in s.views + length z.joined ≡ z.made) is_head r.crew.count in absurd (omega (arith, alone)))

  all_home : (i : ℕ) → i < length s.homes → (x : Ob) × (get_elem? s.homes i ≡ some (some (Some x))) × (state x ≡ after p v.seen i)
  all_home i lt = ⊎_elim
      (λ (h : IsHome p state r.log s.words s.homes i). (h.1.0, h.1.1, h.1.2 ∙ ap (λ z. after p z i) whole))
      (λ (h : IsHeld s.views i). absurd (true≢false (sym h.4 ∙ (ap (λ (z : View Sc En). has i z.holds) (is_only h.0 h.1 h.2 h.3) ∙ ap (has i) empty))))
      (r.each_turn i lt)

  -- what has been taken was taken by this pass or one that ended
  taken_by : (i a : ℕ) → HasTaken s.views i a → took_by i a (past_of v ∷ v.joined) ≡ true
  taken_by i a h = let same = is_only h.0 h.1 h.2 h.3 in ⊎_elim
      (λ (x : (h.1.actor ≡ a) × (has i h.1.took ≡ true)). ap₂ (λ b c. (b && c) || took_by i a v.joined) (eq-eqb a v.actor (sym x.0 ∙ ap (λ (z : View Sc En). z.actor) same)) (ap (λ (z : View Sc En). has i z.took) (sym same) ∙ x.1))
      (λ (x : took_by i a h.1.joined ≡ true). ap (λ b. ((a == v.actor) && has i v.took) || b) (ap (λ (z : View Sc En). took_by i a z.joined) (sym same) ∙ x) ∙ or-true ((a == v.actor) && has i v.took))
      h.4

  all_named : (n : ℕ) (x : Past En) → get_elem? (past_of v ∷ v.joined) n ≡ some x → (i a : ℕ) → has_pair i a x.refused ≡ true → (a ≢ x.actor) × (took_by i a (past_of v ∷ v.joined) ≡ true)
  all_named zero x e i a h = let same : past_of v ≡ x = some-injective (past_of v) x e in
      let g = r.each_refusal id v at live i a (ap (λ (z : Past En). has_pair i a z.refused) same ∙ h) in ((λ q. g.0 (q ∙ ap (λ (z : Past En). z.actor) (sym same))), taken_by i a g.1)
  all_named (suc n) x e i a h = let g = r.past_refusals id v at live n x e i a h in (g.0, taken_by i a g.1)

  no_others : (a : ℕ) → has a (v.actor ∷ actors_of v.joined) ≡ false → own a v.seen ≡ []
  no_others a h = dite (dec_le v.made a)
      (λ le. sym (each_actor a) ∙ r.crew.unmade a (subst (λ (t : View Sc En). t.made ≤ a) (sym is_head) le))
      (λ lt. dite (ℕ_discrete a v.actor)
      (λ e. absurd (true≢false (sym (has_head a v.actor (actors_of v.joined) e) ∙ h)))
      (λ n. absurd (true≢false (sym (has_tail a v.actor (actors_of v.joined) (was_joined a (omega arith) n)) ∙ h))))

  lawful_seen : IsLawful p v.seen
  lawful_seen = subst (IsLawful p) whole r.lawful

  pub sees_all : (t : TableId) → SeesAll p (known_of t v)
  sees_all t = record { lawful = lawful_seen; entries = (refl, joined); others = no_others; apart = (not_joined, apart_names) }

  pub names_takers : (t : TableId) → NamesTakers (known_of t v)
  names_takers t = all_named

  pub objects_home : (i : ℕ) → i < length s.homes → (x : Ob) × (get_elem? s.homes i ≡ some (some (Some x))) × (state x ≡ after p v.seen i)
  objects_home = all_home

-- the slots of a closed table: each has its object, in the state after all that was seen
abbrev pub SlotsAfter : {Wh St En Ob : Type 0} → Meaning Wh St En → (Ob → St) → Log En → List (Option Ob) → Type 0
SlotsAfter {Wh} {St} {En} {Ob} p state log xs = (i : ℕ) → i < length xs → (x : Ob) × (get_elem? xs i ≡ some (Some x)) × (state x ≡ after p log i)

-- what is so at the close of a stage, of what the first pass knows
pub record AtClose {Wh St En Sc Ob : Type 0} (p : Meaning Wh St En) (state : Ob → St) (k : Known Sc En) (xs : List (Option Ob)) : Type 0 where
  pub slots : SlotsAfter p state k.seen xs
  pub history : SeesAll p k
  pub refusals : NamesTakers k

final : {Wh St En Ob Sc : Type 0} (p : Meaning Wh St En) (state : Ob → St) (sc : Sc) (t : TableId) (id : ℕ) (v : View Sc En) (words : List ℕ) (xs : List (Option Ob)) → v.live ≡ true → v.first ≡ true → v.made ≡ length v.joined + 1 → v.holds ≡ [] → EachOwn v.joined v.seen
    → Final (Seen (IsKept p state sc) id v) words xs → AtClose p state (known_of t v) xs
final p state sc t id v words xs live first alone empty joined f = record {
  slots = λ i lt. let h = objects_home p state sc f.0 f.1.0 id v f.1.1 live first alone empty joined i (subst (λ (z : ℕ). i < z) (sym f.3) lt) in (h.0, f.4 i (Some h.0) h.1, h.2);
  history = sees_all p state sc f.0 f.1.0 id v f.1.1 live first alone empty joined t;
  refusals = names_takers p state sc f.0 f.1.0 id v f.1.1 live first alone empty joined t;
}

pub at_close : {Wh St En Ob Sc : Type 0} (meaning : Sc → Meaning Wh St En) (state : Ob → St) (key sc : Sc) (t : TableId) (id : ℕ) (v : View Sc En) (words : List ℕ) (xs : List (Option Ob)) (k : Known Sc En)
    → known_of t v ≡ k → key ≡ sc → v.live ≡ true → EachOwn v.joined v.seen → IsAlone k → k.holds ≡ [] → Final (Seen (IsKept (meaning key) state key) id v) words xs
    → AtClose (meaning sc) state k xs
at_close {Wh} {St} {En} {Ob} {Sc} meaning state key sc t id v words xs k is same live joined alone empty f =
    subst (λ (z : Sc). AtClose (meaning z) state k xs) same
    (subst (λ (z : Known Sc En). AtClose (meaning key) state z xs) is
    (final (meaning key) state key t id v words xs live (ap (λ (z : Known Sc En). z.first) is ∙ alone.0)
    (ap (λ (z : Known Sc En). z.made) is ∙ (alone.1 ∙ ap (λ (z : Known Sc En). length z.joined + 1) (sym is)))
    (ap (λ (z : Known Sc En). z.holds) is ∙ empty) joined f))
