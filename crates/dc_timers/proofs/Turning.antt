-- Wheels to which a timer comes, or from which the soonest goes.
use Rattle.std.proofs.Common.{◌≡◌, ◌<◌, ◌≤◌, ◌+◌, ◌-◌, ℕ, zero, suc, Bool, true, false, cond, List, [], ◌∷◌, ◌++◌, length, take, drop, get_or, sym, refl, ap, ◌∙◌, subst, ⊎_elim, arith, take-append-drop}
use Rattle.std.specs.Prelude.{◌==◌, ◌||◌, ◌&&◌, Option, Some, None, nat_lt, slice_get, insert, remove}
use Rattle.std.specs.Option.{option_map}
use Rattle.std.proofs.lemmas.Bool.{cases_order, lt-ltb, le-ltb}
use Rattle.std.proofs.lemmas.Bool.Decides.{nat_tests}
use Rattle.std.proofs.lemmas.Option.{none-some, same_Some}
use Rattle.dc_base.specs.declared.interrupts.Timer.{Timer}
use Rattle.dc_base.specs.Words.{lesser}
use Rattle.dc_base.specs.Timers.{is_sooner, sooner, soonest, without_timer}
use Rattle.dc_timers.specs.Numbers.{Queue, put_by_number, by_number, DifferFrom, AreNumbered}
use Rattle.dc_timers.proofs.InOrder.{drop-one, drop-all}
use Rattle.std.proofs.lemmas.List.Edits.{length-insert}
use Rattle.dc_timers.specs.Wheels.{IsWheel}
use Rattle.dc_timers.proofs.Apart.{differ-below, differ-front, numbered-insert, numbered-remove}
use Rattle.dc_timers.proofs.Soonest.{soonest-middle}
use Rattle.dc_timers.proofs.Armed.{by_number-insert, by_number-middle, by_number-cons, differ-moved, numbered-next, by_number-remove, soonest-by_number}
use Rattle.dc_timers.proofs.Places.{split-at}
use Rattle.dc_timers.proofs.Least.{soonest-there, soonest-same}

abbrev pub deadline_of : Option Timer → Option ℕ
deadline_of o = option_map (λ (t : Timer). t.deadline) o

later_numbers : (a m b n : ℕ) → b < a → (nat_lt a b || (a == b && nat_lt m n)) ≡ false
later_numbers a m b n h = grind (arith, nat_tests)

-- the deadline of the sooner is the lesser
lesser-by : (t s : Timer) → (cond (is_sooner s t) s t).deadline ≡ (cond (nat_lt s.deadline t.deadline) s.deadline t.deadline)
lesser-by t s = ⊎_elim
    (λ (e : s.deadline ≡ t.deadline). by_either e (is_sooner s t) (nat_lt s.deadline t.deadline))
    (⊎_elim
    (λ (lt : s.deadline < t.deadline).
    let b = lt-ltb s.deadline t.deadline lt in
    ap (λ d. (cond (d || (s.deadline == t.deadline && nat_lt s.number t.number)) s t).deadline) b ∙ ap (λ d. cond d s.deadline t.deadline) (sym b))
    (λ (gt : t.deadline < s.deadline). later gt))
    (cases_order s.deadline t.deadline)
  where
    by_either : s.deadline ≡ t.deadline → (b c : Bool) → (cond b s t).deadline ≡ cond c s.deadline t.deadline
    by_either e true true = refl
    by_either e true false = e
    by_either e false true = sym e
    by_either e false false = refl

    not_sooner : t.deadline < s.deadline → is_sooner s t ≡ false
    not_sooner gt = later_numbers s.deadline s.number t.deadline t.number gt

    later : t.deadline < s.deadline → (cond (is_sooner s t) s t).deadline ≡ cond (nat_lt s.deadline t.deadline) s.deadline t.deadline
    later gt =
        let b = le-ltb s.deadline t.deadline (omega arith) in
        let n : is_sooner s t ≡ false = not_sooner gt in
        ap (λ d. (cond d s t).deadline) n ∙ ap (λ d. cond d s.deadline t.deadline) (sym b)

sooner-deadline : (t : Timer) (o : Option Timer) → Some (lesser t.deadline (deadline_of o)) ≡ deadline_of (Some (sooner t o))
sooner-deadline t None = refl
sooner-deadline t (Some s) = ap Some (sym (lesser-by t s))

module _ (room new : List Timer) (t : Timer) (at : ℕ) (same : new ≡ insert room at t) (numbered : AreNumbered t.number room) where
  whole : take at room ++ drop at room ≡ room
  whole = take-append-drop at room

  parts_numbered : AreNumbered t.number (take at room ++ drop at room)
  parts_numbered = subst (AreNumbered t.number) (sym whole) numbered

  pub armed-put : by_number new ≡ by_number room ++ t ∷ []
  armed-put = ap by_number same ∙ (by_number-insert t (take at room) (drop at room) parts_numbered ∙ ap (λ xs. by_number xs ++ t ∷ []) whole)

  pub wheel-put : (earliest : Option ℕ) → earliest ≡ deadline_of (soonest room) → IsWheel (t.number + 1) (Some (lesser t.deadline earliest)) new
  wheel-put earliest is = record {
    numbered = subst (AreNumbered (t.number + 1)) (sym same) (numbered-next t (take at room) (drop at room) parts_numbered);
    earliest_is =
        ap (λ o. Some (lesser t.deadline o)) is
        ∙ (sooner-deadline t (soonest room)
        ∙ ap deadline_of (ap (λ xs. Some (sooner t (soonest xs))) (sym whole) ∙ (sym (soonest-middle (take at room) t (drop at room) (differ-front t.number (take at room) (drop at room) (differ-below t.number (take at room ++ drop at room) parts_numbered))) ∙ ap soonest (sym same))));
  }

-- the soonest is in the list
pub soonest-place : (room : List Timer) (d : ℕ) → Some d ≡ deadline_of (soonest room) → (j : ℕ) × (t : Timer) × (slice_get room j ≡ Some t) × (t.deadline ≡ d)
soonest-place room d e = by_soonest (soonest room) refl e
  where
    by_soonest : (o : Option Timer) → soonest room ≡ o → Some d ≡ deadline_of o → (j : ℕ) × (t : Timer) × (slice_get room j ≡ Some t) × (t.deadline ≡ d)
    by_soonest None q f = absurd (none-some d (sym f))
    by_soonest (Some s) q f = let r = soonest-there room s q in (r.0, s, r.1, sym (same_Some d s.deadline f))

module _ (next : ℕ) (room : List Timer) (d at : ℕ) (t : Timer) (numbered : AreNumbered next room) (is_earliest : Some d ≡ deadline_of (soonest room)) (there : slice_get room at ≡ Some t)
    (least : (j : ℕ) (r u : Timer) → slice_get room at ≡ Some r → slice_get room j ≡ Some u → u.deadline ≡ d → is_sooner u r ≡ false) where
  pub taken-soonest : soonest room ≡ Some t
  taken-soonest = by_soonest (soonest room) refl is_earliest
    where
      by_soonest : (o : Option Timer) → soonest room ≡ o → Some d ≡ deadline_of o → soonest room ≡ Some t
      by_soonest None q f = absurd (none-some d (sym f))
      by_soonest (Some s) q f =
          let r = soonest-there room s q in
          soonest-same next room at t s numbered there q (least r.0 t s there r.1 (sym (same_Some d s.deadline f)))

module _ (next : ℕ) (room new : List Timer) (at : ℕ) (t : Timer) (numbered : AreNumbered next room) (there : slice_get room at ≡ Some t) (same : new ≡ remove room at) where
  split : room ≡ take at room ++ t ∷ drop (suc at) room
  split = split-at room at t there

  parts : AreNumbered next (take at room ++ t ∷ drop (suc at) room)
  parts = subst (AreNumbered next) split numbered

  pub numbered-take : AreNumbered next new
  numbered-take = subst (AreNumbered next) (sym same) (numbered-remove next (take at room) t (drop (suc at) room) parts).rest

  pub armed-take : by_number new ≡ without_timer t (by_number room)
  armed-take = ap by_number same ∙ (sym (by_number-remove next t (take at room) (drop (suc at) room) parts) ∙ ap (λ xs. without_timer t (by_number xs)) (sym split))

pub wheel-soonest : (next : ℕ) (room : List Timer) → AreNumbered next room → (q : Queue) → record { armed = by_number room; next = next } ≡ q → soonest room ≡ soonest q.armed
wheel-soonest next room numbered q e = sym (soonest-by_number next room numbered) ∙ ap (λ (x : Queue). soonest x.armed) e

-- a list that is put into buckets from its end
numbered-drop : (next i : ℕ) (ts : List Timer) → AreNumbered next ts → AreNumbered next (drop i ts)
numbered-drop next zero ts n = n
numbered-drop next (suc i) [] n = tt
numbered-drop next (suc i) (t ∷ ts) n = numbered-drop next i ts n.2

-- the last i timers of a list and those in buckets
pub record IsMoved (ts : List Timer) (i : ℕ) (room : List Timer) : Type 0 where
  pub long : length room + i ≡ length ts
  pub same : by_number room ≡ by_number (drop i ts)
  pub numbered : (next : ℕ) → AreNumbered next ts → AreNumbered next room

pub moved-none : (ts room : List Timer) → room ≡ [] → IsMoved ts (length ts) room
moved-none ts room e = record {
  long = let l = ap length e in omega (arith, l);
  same = ap by_number (e ∙ sym (drop-all ts));
  numbered = λ next n. subst (AreNumbered next) (sym e) tt;
}

pub moved-more : (ts : List Timer) (i : ℕ) (room new : List Timer) (o : Timer) → 0 < i → i ≤ length ts → IsMoved ts i room → ((next : ℕ) × AreNumbered next ts) → ((at : ℕ) × (at ≤ length room) × (new ≡ insert room at (get_or ts (i - 1) o))) → IsMoved ts (i - 1) new
moved-more ts i room new o some within is named put =
    let t : Timer = get_or ts (i - 1) o in
    let at : ℕ = put.0 in
    let next : ℕ = named.0 in
    let one : i ≡ suc (i - 1) = omega arith in
    let cut : drop (i - 1) ts ≡ t ∷ drop i ts = drop-one ts (i - 1) o (omega arith) ∙ ap (λ n. t ∷ drop n ts) (sym one) in
    let apart : (n : ℕ) → AreNumbered n ts → DifferFrom t.number room = λ n h. differ-moved t.number room (drop i ts) is.same (subst (AreNumbered n) cut (numbered-drop n (i - 1) ts h)).1 in
    let whole : take at room ++ drop at room ≡ room = take-append-drop at room in
    record {
      long = let len = ap length put.2 in let l = length-insert room at t put.1 in let before = is.long in omega (arith, len, l, before);
      same =
          ap by_number put.2
          ∙ (by_number-middle (take at room) t (drop at room) (differ-front t.number (take at room) (drop at room) (subst (DifferFrom t.number) (sym whole) (apart next named.1)))
          ∙ (ap (λ xs. put_by_number t (by_number xs)) whole ∙ (ap (put_by_number t) is.same ∙ (by_number-cons t (drop i ts) ∙ ap by_number (sym cut)))));
      numbered = λ n h.
          subst (AreNumbered n) (sym put.2) (numbered-insert n (take at room) t (drop at room)
          (subst (AreNumbered n) (sym whole) (is.numbered n h))
          (subst (AreNumbered n) cut (numbered-drop n (i - 1) ts h)).0
          (subst (DifferFrom t.number) (sym whole) (apart n h)));
    }
