-- A pass goes on with its seat.
use Rattle.std.proofs.Common.{◌≡◌, ℕ, ◌+◌, ◌<◌, ◌||◌, ◌==◌, Bool, true, false, true≢false, List, [], ◌∷◌, ◌++◌, length, drop, get_or, sym, refl, ap, ap₂, ◌∙◌, subst, ⊎_elim, arith, ne_eqb}
use Rattle.std.specs.Prelude.{Option, Some, None}
use mathlib.Core.Logic.{dite}
use mathlib.Core.List.{IsPrefix}
use native.Mathlib.Decide.{ℕ_discrete}
use Rattle.atomic_table.specs.Seated.{TableId}
use Rattle.atomic_table.specs.Table.{rest, Step}
use Rattle.dc_stage.specs.Numbers.{has, without, IsApart}
use Rattle.dc_stage.specs.History.{Meaning, Log, own, run, after, IsLawful, Untouched, IsLocal}
use Rattle.dc_stage.specs.Pasts.{EachOwn}
use Rattle.dc_stage.specs.Views.{newcomer, making, made_of, taking_in, giving, taking, refusing, seeing}
use Rattle.dc_stage.specs.Steps.{At, GoesOn, committed}
use Rattle.dc_stage.specs.Passes.{Known, having_seen}
use Rattle.dc_stage.specs.Carried.{known_of, keys, Carries, PassIsKept}
use Rattle.dc_stage.specs.Calls.{SeesMore, Commits, Joins}
use Rattle.dc_stage.specs.declared.view.View.{View}
use Rattle.dc_stage.proofs.Logs.{run_append, own_append, own_here, longer}
use Rattle.dc_stage.proofs.Numbers.{has_cons, has_tail, has_head, without_other, without_same, few_below}

pub some_same : {A : Type 0} (x y : A) → ◌≡◌ {A = Option A} (Some x) (Some y) → x ≡ y
some_same {A} x y e = ap from e
  where
    from : Option A → A
    from (Some z) = z
    from None = x

heads : (a b : ℕ) (xs ys : List ℕ) → a ∷ xs ≡ b ∷ ys → a ≡ b
heads a b xs ys e = ap (λ t. get_or t 0 0) e

-- where the slots that are carried have these numbers, the first is that of the first number
pub front_slot : {X : Type 0} (c : List (ℕ × X)) (i : ℕ) (r : List ℕ) → keys c ≡ i ∷ r → (x : X) × (c ≡ (i, x) ∷ rest c)
front_slot [] i r e = absurd (let l = ap length e in omega arith)
front_slot (y ∷ ys) i r e = (y.1, ap (λ z. (z, y.1) ∷ ys) (heads y.0 i (keys ys) r e))

pub rest_keys : {X : Type 0} (c : List (ℕ × X)) (i : ℕ) (r : List ℕ) → keys c ≡ i ∷ r → keys (rest c) ≡ r
rest_keys [] i r e = absurd (let l = ap length e in omega arith)
rest_keys (y ∷ ys) i r e = ap (drop 1) e

pub no_keys : {X : Type 0} (c : List (ℕ × X)) → keys c ≡ [] → c ≡ []
no_keys [] e = refl
no_keys (y ∷ ys) e = absurd (let l = ap length e in omega arith)

pub none_held : (holds held : List ℕ) → holds ≡ [] → ((i : ℕ) → has i holds ≡ has i held) → held ≡ []
none_held holds [] e h = refl
none_held holds (x ∷ xs) e h = absurd (true≢false (sym (has_head x x xs refl) ∙ (sym (h x) ∙ ap (has x) e)))

pub carries_take : (n i : ℕ) (holds held carried : List ℕ) → has i holds ≡ false → i < n → Carries n holds held carried → Carries n (i ∷ holds) (i ∷ held) (i ∷ carried)
carries_take n i holds held carried free near c = record {
  keys = ap (λ t. i ∷ t) c.keys;
  same = λ j. ap (λ b. (j == i) || b) (c.same j);
  apart = (sym (c.same i) ∙ free, c.apart);
  below = λ j h. ⊎_elim (λ (e : j ≡ i). subst (λ (z : ℕ). z < n) (sym e) near) (λ m. c.below j m) (has_cons j i held h);
}

pub room : (n i : ℕ) (holds held carried : List ℕ) → has i holds ≡ false → i < n → Carries n holds held carried → length held < n
room n i holds held carried free near c = let t = carries_take n i holds held carried free near c in let r = few_below n (i ∷ held) t.apart t.below in omega arith

pub carries_give : (n i : ℕ) (holds held carried carried' : List ℕ) → Carries n holds (i ∷ held) carried → carried' ≡ held → Carries n (without i holds) held carried'
carries_give n i holds held carried carried' c e = record {
  keys = e;
  same = λ j. dite (ℕ_discrete j i)
      (λ q. ap (λ z. has z (without i holds)) q ∙ (without_same i holds ∙ (sym c.apart.0 ∙ ap (λ z. has z held) (sym q))))
      (λ q. without_other j i holds q ∙ (c.same j ∙ ap (λ b. b || has j held) (ne_eqb j i q)));
  apart = c.apart.1;
  below = λ j h. c.below j (has_tail j i held h);
}

-- the same of an equal seat
pub goes_on : {Sc En Ob : Type 0} {Room : ℕ → Type 0} {n n' actor made : ℕ} {held : List ℕ} {m m' : At Sc En Ob} → n' ≡ n → m' ≡ m → PassIsKept n m actor made held Room → PassIsKept n' m' actor made held Room
goes_on {Sc} {En} {Ob} {Room} {n} {n'} {actor} {made} {held} {m} {m'} e f ok = subst (λ (z : ℕ). PassIsKept z m' actor made held Room) (sym e) (subst (λ (z : At Sc En Ob). PassIsKept n z actor made held Room) (sym f) ok)

-- the same where the numbers held are equal
pub holding : {Sc En Ob : Type 0} {Room : ℕ → Type 0} {n actor made : ℕ} {held held' : List ℕ} {m : At Sc En Ob} → held' ≡ held → PassIsKept n m actor made held Room → PassIsKept n m actor made held' Room
holding {Sc} {En} {Ob} {Room} {n} {actor} {made} {held} {held'} {m} e ok = subst (λ (h : List ℕ). PassIsKept n m actor made h Room) (sym e) ok

module _ {Sc En Ob : Type 0} {Room : ℕ → Type 0} {n : ℕ} {me : At Sc En Ob} {actor made : ℕ} {held : List ℕ} (ok : PassIsKept n me actor made held Room) where
  pub ok_seeing : (log : Log En) → EachOwn me.0.joined log → PassIsKept n (seeing me.0 log, me.1) actor made held Room
  ok_seeing log e = record { live = ok.live; actor_is = ok.actor_is; small = ok.small; made_is = ok.made_is; carries = ok.carries; joined = e; room = ok.room }

  pub ok_refusing : (i a : ℕ) → PassIsKept n (refusing me.0 i a, me.1) actor made held Room
  ok_refusing i a = record { live = ok.live; actor_is = ok.actor_is; small = ok.small; made_is = ok.made_is; carries = ok.carries; joined = ok.joined; room = ok.room }

  pub ok_taking : (i : ℕ) (y : Option Ob) (log : Log En) → has i me.0.holds ≡ false → i < n → EachOwn me.0.joined log → PassIsKept n (taking me.0 i log, (i, y) ∷ me.1) actor made (i ∷ held) Room
  ok_taking i y log free near e = record { live = ok.live; actor_is = ok.actor_is; small = ok.small; made_is = ok.made_is; carries = carries_take n i me.0.holds held (keys me.1) free near ok.carries; joined = e; room = ok.room }

  -- the slots in another order
  pub ok_turning : (me' : At Sc En Ob) (held' : List ℕ) → me'.0 ≡ me.0 → keys me'.1 ≡ held' → ((j : ℕ) → has j held' ≡ has j held) → IsApart held' → PassIsKept n me' actor made held' Room
  ok_turning me' held' e k same apart = subst (λ (z : View Sc En). PassIsKept n (z, me'.1) actor made held' Room) (sym e)
      record { live = ok.live; actor_is = ok.actor_is; small = ok.small; made_is = ok.made_is; carries = record { keys = k; same = λ j. ok.carries.same j ∙ sym (same j); apart = apart; below = λ j h. ok.carries.below j (sym (same j) ∙ h) }; joined = ok.joined; room = ok.room }

  pub ok_making : PassIsKept n (making me.0, me.1) actor (made + 1) held Room
  ok_making = record { live = ok.live; actor_is = ok.actor_is; small = ok.small; made_is = ap (λ z. z + 1) ok.made_is; carries = ok.carries; joined = ok.joined; room = ok.room }

  pub ok_joining : (u : View Sc En) (log : Log En) → EachOwn ((taking_in me.0 u).joined) log → PassIsKept n (seeing (taking_in me.0 u) log, me.1) actor made held Room
  ok_joining u log e = record { live = ok.live; actor_is = ok.actor_is; small = ok.small; made_is = ok.made_is; carries = ok.carries; joined = e; room = ok.room }

pub ok_giving : {Sc En Ob : Type 0} {Room : ℕ → Type 0} {n : ℕ} {me : At Sc En Ob} {actor made i : ℕ} {held : List ℕ} → PassIsKept n me actor made (i ∷ held) Room → PassIsKept n (giving me.0 i, rest me.1) actor made held Room
ok_giving {Sc} {En} {Ob} {Room} {n} {me} {actor} {made} {i} {held} ok = record { live = ok.live; actor_is = ok.actor_is; small = ok.small; made_is = ok.made_is; carries = carries_give n i me.0.holds held (keys me.1) (keys (rest me.1)) ok.carries (rest_keys me.1 i held ok.carries.keys); joined = ok.joined; room = ok.room }

pub ok_first : {Sc En Ob : Type 0} {Room : ℕ → Type 0} (n : ℕ) (sc : Sc) → Room n → PassIsKept {Sc = Sc} {En = En} {Ob = Ob} n (newcomer sc, []) 0 1 [] Room
ok_first n sc r = record { live = refl; actor_is = refl; small = omega arith; made_is = refl; carries = record { keys = refl; same = λ j. refl; apart = tt; below = λ j h. absurd (true≢false (sym h)) }; joined = tt; room = λ f. r }

pub ok_new : {Sc En Ob : Type 0} {Room : ℕ → Type 0} (n : ℕ) (v : View Sc En) → v.made < 64 → PassIsKept {Sc = Sc} {En = En} {Ob = Ob} n (made_of v, []) v.made 0 [] Room
ok_new n v lt = record { live = refl; actor_is = refl; small = lt; made_is = refl; carries = record { keys = refl; same = λ j. refl; apart = tt; below = λ j h. absurd (true≢false (sym h)) }; joined = tt; room = λ f. absurd (true≢false (sym f)) }

module _ {Wh St En Sc : Type 0} (meaning : Sc → Meaning Wh St En) (sc : Sc) where
  pub same_scene : (v : View Sc En) (log : Log En) → v.scene ≡ Some sc → (g : GoesOn meaning v log) → g.scene ≡ sc
  same_scene v log e g = some_same g.scene sc (sym g.at ∙ e)

  pub sees_more : (t : TableId) (v : View Sc En) (log : Log En) → v.scene ≡ Some sc → GoesOn meaning v log → SeesMore (meaning sc) (known_of t v) log
  sees_more t v log e g = record { sees = g.sees; mine = g.mine; joined = g.joined; lawful = subst (λ z. IsLawful (meaning z) log) (same_scene v log e g) g.lawful; kept = λ i h. subst (λ z. after (meaning z) log i ≡ after (meaning z) v.seen i) (same_scene v log e g) (g.kept i h) }

-- after the entry, what the pass holds is as the entry makes it from what the pass had seen
as_made : {Wh St En Sc : Type 0} (p : Meaning Wh St En) → Untouched p → IsLocal p → (k : Known Sc En) (before : Log En) (e : En) → SeesMore p k before
    → ((i : ℕ) → has i (p.touched (run p p.start k.seen) k.actor e) ≡ true → has i k.holds ≡ true) → p.lawful (run p p.start k.seen) k.actor e
    → (i : ℕ) → has i k.holds ≡ true → after p (before ++ (k.actor, e) ∷ []) i ≡ p.at (p.next (run p p.start k.seen) k.actor e) i
as_made {Wh} p untouched local k before e more held lawful i mine =
    let old : Wh = run p p.start k.seen in
    ap (λ w. p.at w i) (run_append p p.start before ((k.actor, e) ∷ [])) ∙ by_touch (has i (p.touched old k.actor e)) refl
  where
    by_touch : (b : Bool) → has i (p.touched (run p p.start k.seen) k.actor e) ≡ b → p.at (p.next (run p p.start before) k.actor e) i ≡ p.at (p.next (run p p.start k.seen) k.actor e) i
    by_touch true t = sym ((local (run p p.start k.seen) (run p p.start before) k.actor e lawful (λ j h. sym (more.kept j (held j h)))).2 i t)
    by_touch false t = let law = local (run p p.start k.seen) (run p p.start before) k.actor e lawful (λ j h. sym (more.kept j (held j h))) in
        untouched (run p p.start before) k.actor e i law.1 (ap (has i) (sym law.0) ∙ t) ∙ (more.kept i mine ∙ sym (untouched (run p p.start k.seen) k.actor e i lawful t))

module _ {Wh St En Sc Ob : Type 0} (meaning : Sc → Meaning Wh St En) (sc : Sc) where
  pub commits_as : Untouched (meaning sc) → IsLocal (meaning sc) → (t t' : TableId) (st : Step (Option Ob)) (m m' : At Sc En Ob) (k : Known Sc En) (entry : En) (r : ℕ) → known_of t m.0 ≡ k → k.scene ≡ Some sc → t' ≡ t
      → ((i : ℕ) → has i ((meaning sc).touched (run (meaning sc) (meaning sc).start k.seen) k.actor entry) ≡ true → has i k.holds ≡ true) → (meaning sc).lawful (run (meaning sc) (meaning sc).start k.seen) k.actor entry
      → committed meaning (Some entry) st m r m' → Commits (meaning sc) k (known_of t' m'.0) entry r
  commits_as untouched local t t' st m m' k entry r is scene same held lawful told =
      let at : m.0.scene ≡ Some sc = ap (λ (z : Known Sc En). z.scene) is ∙ scene in
      let e : entry ≡ told.0 = some_same entry told.0 told.3 in
      let more : SeesMore (meaning sc) k (m.0.seen ++ told.1) = subst (λ (z : Known Sc En). SeesMore (meaning sc) z (m.0.seen ++ told.1)) is (sees_more meaning sc t m.0 (m.0.seen ++ told.1) at told.2) in
      let result : known_of t' m'.0 ≡ having_seen k ((m.0.seen ++ told.1) ++ (k.actor, entry) ∷ []) =
      ap₂ (λ (a : TableId) (b : At Sc En Ob). known_of a b.0) same told.4 ∙ (ap (λ z. known_of t (seeing m.0 ((m.0.seen ++ told.1) ++ (m.0.actor, z) ∷ []))) (sym e)
      ∙ ap (λ (z : Known Sc En). having_seen z ((m.0.seen ++ told.1) ++ (z.actor, entry) ∷ [])) is) in
      let before : Log En = m.0.seen ++ told.1 in
      let seen_is : (known_of t' m'.0).seen ≡ before ++ (k.actor, entry) ∷ [] = ap (λ (z : Known Sc En). z.seen) result in
      record {
        before = before;
        more = more;
        same = result;
        place = told.5;
        sees = subst (IsPrefix k.seen) (sym seen_is) (longer k.seen before ((k.actor, entry) ∷ []) more.sees);
        mine = ap (own k.actor) seen_is ∙ (own_append k.actor before ((k.actor, entry) ∷ []) ∙ ap₂ (λ x y. x ++ y) more.mine (own_here k.actor entry));
        joined = subst (λ (z : Known Sc En). EachOwn z.joined m'.0.seen) is (subst (λ (z : At Sc En Ob). EachOwn m.0.joined z.0.seen) (sym told.4) told.8);
        lawful = subst (λ (z : At Sc En Ob). IsLawful (meaning sc) z.0.seen) (sym told.4) (subst (λ z. IsLawful (meaning z) ((m.0.seen ++ told.1) ++ (m.0.actor, told.0) ∷ [])) (same_scene meaning sc m.0 (m.0.seen ++ told.1) at told.2) told.7);
        kept = λ i h. ap (λ (z : Known Sc En). after (meaning sc) z.seen i) result ∙ as_made (meaning sc) untouched local k (m.0.seen ++ told.1) entry more held lawful i h;
      }

module _ {Wh St En Sc : Type 0} (meaning : Sc → Meaning Wh St En) (sc : Sc) where
  joined_more : (t t' : TableId) (v u : View Sc En) (log : Log En) → v.scene ≡ Some sc → GoesOn meaning (taking_in v u) log → Joins (meaning sc) (known_of t v) (known_of t' u) (known_of t (seeing (taking_in v u) log))
  joined_more t t' v u log at g = let same = same_scene meaning sc (taking_in v u) log at g in record {
    same = refl;
    more = record { sees = g.sees; mine = g.mine; joined = g.joined.1; lawful = subst (λ z. IsLawful (meaning z) log) same g.lawful; kept = λ i h. subst (λ z. after (meaning z) log i ≡ after (meaning z) v.seen i) same (g.kept i h) };
    sees_theirs = g.told;
    theirs = g.joined.0;
    joined = g.joined;
  }

module _ {Wh St En Sc Ob : Type 0} (meaning : Sc → Meaning Wh St En) (sc : Sc) where
  -- the first pass after a join and a look
  pub joins_as : (t t' t'' : TableId) (v u : View Sc En) (m m' : At Sc En Ob) (log : Log En) (k l : Known Sc En) → known_of t v ≡ k → known_of t'' u ≡ l → k.scene ≡ Some sc → t' ≡ t
      → m.0 ≡ taking_in v u → GoesOn meaning m.0 log → m'.0 ≡ seeing m.0 log → Joins (meaning sc) k l (known_of t' m'.0)
  joins_as t t' t'' v u m m' log k l is theirs scene same took goes now =
      let at : v.scene ≡ Some sc = ap (λ (z : Known Sc En). z.scene) is ∙ scene in
      let g : GoesOn meaning (taking_in v u) log = subst (λ (z : View Sc En). GoesOn meaning z log) took goes in
      let end : known_of t (seeing (taking_in v u) log) ≡ known_of t' m'.0 = ap₂ known_of (sym same) (sym (now ∙ ap (λ (z : View Sc En). seeing z log) took)) in
      subst (λ (z : Known Sc En). Joins (meaning sc) k l z) end
      (subst (λ (z : Known Sc En). Joins (meaning sc) k z (known_of t (seeing (taking_in v u) log))) theirs
      (subst (λ (z : Known Sc En). Joins (meaning sc) z (known_of t'' u) (known_of t (seeing (taking_in v u) log))) is
      (joined_more meaning sc t t'' v u log at g)))
