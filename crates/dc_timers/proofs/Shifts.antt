-- Buckets that stay side by side as a timer comes or goes.
use Rattle.std.proofs.Common.{◌≡◌, ◌<◌, ◌≤◌, ◌+◌, ℕ, zero, suc, List, [], length, get_or, sym, refl, ap, ◌∙◌, subst, ⊎_elim, arith}
use Rattle.std.specs.Prelude.{Some, nat_lt, slice_get, slice_index, insert, remove}
use Rattle.std.proofs.Math.ListN.{replicate}
use Rattle.std.proofs.lemmas.List.{get_or-replicate}
use Rattle.std.proofs.lemmas.List.Edits.{length-insert, length-remove}
use Rattle.std.proofs.lemmas.Bool.{cases_lt, cases_order, lt-ltb, le-ltb}
use Rattle.std.proofs.lemmas.Option.{same_Some, slice_get_within, slice_get_read}
use Rattle.dc_base.specs.declared.interrupts.Timer.{Timer}
use Rattle.dc_base.specs.Words.{Each, count_of}
use Rattle.dc_base.proofs.EachLaws.{each_nil}
use Rattle.dc_timers.specs.Wheels.{bucket_of, IsWithin, AreBuckets}
use Rattle.dc_timers.proofs.Places.{get-remove_below, get-remove_above, get-insert_below, get-insert_at, get-insert_above}

zero-at : (b : ℕ) → b < 65 → slice_index (replicate 65 0) b ≡ 0
zero-at b lt = get_or-replicate 65 b 0 0 lt

pub empty-buckets : (room : List Timer) → room ≡ [] → AreBuckets room (replicate 65 0)
empty-buckets room none = record {
  size = refl;
  rise = λ b c le lt. let z = zero-at b (omega arith) in let y = zero-at c lt in omega (arith, z, y);
  last = λ b lt. let z = zero-at b lt in omega (arith, z);
  placed = subst (λ xs. Each xs (λ i (t : Timer). IsWithin (replicate 65 0) (bucket_of t.deadline) i)) (sym none) (each_nil (λ i (t : Timer). IsWithin (replicate 65 0) (bucket_of t.deadline) i));
}

bucket-below : (d : ℕ) → bucket_of d < 64
bucket-below d = omega arith

count-low : (b k : ℕ) → k ≤ b → count_of (nat_lt b k) ≡ 0
count-low b k le = ap count_of (le-ltb b k le)

count-high : (b k : ℕ) → b < k → count_of (nat_lt b k) ≡ 1
count-high b k lt = ap count_of (lt-ltb b k lt)

-- one timer comes to the end of bucket b
module _ (room : List Timer) (old new : List ℕ) (t : Timer) (is : AreBuckets room old) (size : length new ≡ 65) (moved : (k : ℕ) → k < 65 → slice_index new k ≡ slice_index old k + count_of (nat_lt (bucket_of t.deadline) k)) where
  abbrev b : ℕ
  b = bucket_of t.deadline

  abbrev at : ℕ
  at = slice_index old (b + 1)

  low : (k : ℕ) → k ≤ b → slice_index new k ≡ slice_index old k
  low k le = let m = moved k (let s = bucket-below t.deadline in omega (arith, s)) in let c = count-low b k le in omega (arith, m, c)

  high : (k : ℕ) → b < k → k < 65 → slice_index new k ≡ slice_index old k + 1
  high k lt small = let m = moved k small in let c = count-high b k lt in omega (arith, m, c)

  within : at ≤ length room
  within = is.last (b + 1) (let s = bucket-below t.deadline in omega (arith, s))

  rises : (c d : ℕ) → c ≤ d → d < 65 → slice_index new c ≤ slice_index new d
  rises c d le small =
      let up = is.rise c d le small in
      ⊎_elim
      (λ (lt : b < c). let p = high c lt (omega arith) in let q = high d (omega arith) small in omega (arith, p, q, up))
      (λ (ge : c ≤ b). let p = low c ge in ⊎_elim
      (λ (lt : b < d). let q = high d lt small in omega (arith, p, q, up))
      (λ (ge' : d ≤ b). let q = low d ge' in omega (arith, p, q, up))
      (cases_lt b d))
      (cases_lt b c)

  lasts : (k : ℕ) → k < 65 → slice_index new k ≤ length (insert room at t)
  lasts k small =
      let len = length-insert room at t within in
      let l = is.last k small in
      ⊎_elim (λ (lt : b < k). let p = high k lt small in omega (arith, p, l, len)) (λ (ge : k ≤ b). let p = low k ge in omega (arith, p, l, len)) (cases_lt b k)

  before : (i : ℕ) (c : ℕ) → c < 64 → i < at → IsWithin old c i → IsWithin new c i
  before i c small lt w =
      let from = w.from in
      let to = w.to in
      ⊎_elim
      (λ (past : b < c). let up = is.rise (b + 1) c (omega arith) (omega arith) in absurd (omega (arith, up, from)))
      (λ (ge : c ≤ b).
      let p = low c ge in
      let m = moved (c + 1) (omega arith) in
      record { from = omega (arith, p, from); to = omega (arith, m, to) })
      (cases_lt b c)

  here : IsWithin new b at
  here =
      let s = bucket-below t.deadline in
      let up = is.rise b (b + 1) (omega arith) (omega (arith, s)) in
      let p = low b (omega arith) in
      let q = high (b + 1) (omega arith) (omega (arith, s)) in
      record { from = omega (arith, p, up); to = omega (arith, q) }

  behind : (i : ℕ) (c : ℕ) → c < 64 → at ≤ i → IsWithin old c i → IsWithin new c (suc i)
  behind i c small le w =
      let from = w.from in
      let to = w.to in
      ⊎_elim
      (λ (past : b < c).
      let p = high c past (omega arith) in
      let q = high (c + 1) (omega arith) (omega arith) in
      record { from = omega (arith, p, from); to = omega (arith, q, to) })
      (λ (ge : c ≤ b). let s = bucket-below t.deadline in let up = is.rise (c + 1) (b + 1) (omega arith) (omega (arith, s)) in absurd (omega (arith, up, to)))
      (cases_lt b c)

  all_placed : (i : ℕ) (u : Timer) → slice_get (insert room at t) i ≡ Some u → IsWithin new (bucket_of u.deadline) i
  all_placed i u e = ⊎_elim
      (λ (same : i ≡ at). subst (λ (x : Timer). IsWithin new (bucket_of x.deadline) i) (same_Some t u (sym (get-insert_at room at t within) ∙ (ap (slice_get (insert room at t)) (sym same) ∙ e))) (subst (IsWithin new b) (sym same) here))
      (⊎_elim
      (λ (lt : i < at). before i (bucket_of u.deadline) (bucket-below u.deadline) lt (is.placed i u (sym (get-insert_below room at t i lt within) ∙ e)))
      (λ (gt : at < i). after i gt e))
      (cases_order i at)
    where
      after : (i : ℕ) → at < i → slice_get (insert room at t) i ≡ Some u → IsWithin new (bucket_of u.deadline) i
      after zero gt e = absurd (omega arith)
      after (suc j) gt e = let le : at ≤ j = omega arith in behind j (bucket_of u.deadline) (bucket-below u.deadline) le (is.placed j u (sym (get-insert_above room at t j le within) ∙ e))

  pub buckets-put : AreBuckets (insert room at t) new
  buckets-put = record { size = size; rise = rises; last = lasts; placed = all_placed }

-- one timer goes
module _ (room : List Timer) (old : List ℕ) (t : Timer) (at : ℕ) (is : AreBuckets room old) (there : slice_get room at ≡ Some t) where
  abbrev own : ℕ
  own = bucket_of t.deadline

  stands : IsWithin old own at
  stands = is.placed at t there

  pub some-behind : (k : ℕ) → own < k → k < 65 → 0 < slice_index old k
  some-behind k lt small = let up = is.rise (own + 1) k (omega arith) small in let to = stands.to in omega (arith, up, to)

  module _ (new : List ℕ) (size : length new ≡ 65) (moved : (k : ℕ) → k < 65 → slice_index new k + count_of (nat_lt own k) ≡ slice_index old k) where
    less-low : (k : ℕ) → k ≤ own → slice_index new k ≡ slice_index old k
    less-low k le = let m = moved k (let s = bucket-below t.deadline in omega (arith, s)) in let c = count-low own k le in omega (arith, m, c)

    less-high : (k : ℕ) → own < k → k < 65 → slice_index new k + 1 ≡ slice_index old k
    less-high k lt small = let m = moved k small in let c = count-high own k lt in omega (arith, m, c)

    less-rises : (c d : ℕ) → c ≤ d → d < 65 → slice_index new c ≤ slice_index new d
    less-rises c d le small =
        let up = is.rise c d le small in
        ⊎_elim
        (λ (lt : own < c). let p = less-high c lt (omega arith) in let q = less-high d (omega arith) small in omega (arith, p, q, up))
        (λ (ge : c ≤ own). let p = less-low c ge in ⊎_elim
        (λ (lt : own < d).
        let q = less-high d lt small in
        let s = bucket-below t.deadline in
        let to_own = is.rise c own ge (omega (arith, s)) in
        let from_own = is.rise (own + 1) d (omega arith) small in
        let from = stands.from in
        let to = stands.to in
        omega (arith, p, q, to_own, from_own, from, to))
        (λ (ge' : d ≤ own). let q = less-low d ge' in omega (arith, p, q, up))
        (cases_lt own d))
        (cases_lt own c)

    less-lasts : (k : ℕ) → k < 65 → slice_index new k ≤ length (remove room at)
    less-lasts k small =
        let inside = slice_get_within room at t there in
        let len = length-remove room at inside in
        let l = is.last k small in
        ⊎_elim
        (λ (lt : own < k). let p = less-high k lt small in omega (arith, p, l, len))
        (λ (ge : k ≤ own). let p = less-low k ge in let s = bucket-below t.deadline in let up = is.rise k own ge (omega (arith, s)) in let from = stands.from in omega (arith, p, up, from, len, inside))
        (cases_lt own k)

    stay-before : (i : ℕ) (c : ℕ) → c < 64 → i < at → IsWithin old c i → IsWithin new c i
    stay-before i c small lt w =
        let from = w.from in
        let to = w.to in
        let m = moved c (omega arith) in
        record {
          from = omega (arith, m, from);
          to = ⊎_elim
              (λ (past : own < c + 1). let q = less-high (c + 1) past (omega arith) in let up = is.rise (own + 1) (c + 1) (omega arith) (omega arith) in let last = stands.to in omega (arith, q, up, last))
              (λ (ge : c + 1 ≤ own). let q = less-low (c + 1) ge in omega (arith, q, to))
              (cases_lt own (c + 1));
        }

    stay-behind : (i : ℕ) (c : ℕ) → c < 64 → at ≤ i → IsWithin old c (suc i) → IsWithin new c i
    stay-behind i c small le w =
        let from = w.from in
        let to = w.to in
        record {
          from = ⊎_elim
              (λ (past : own < c). let q = less-high c past (omega arith) in omega (arith, q, from))
              (λ (ge : c ≤ own). let q = less-low c ge in let s = bucket-below t.deadline in let up = is.rise c own ge (omega (arith, s)) in let first = stands.from in omega (arith, q, up, first))
              (cases_lt own c);
          to = ⊎_elim
              (λ (past : own < c + 1). let q = less-high (c + 1) past (omega arith) in omega (arith, q, to))
              (λ (ge : c + 1 ≤ own). let q = less-low (c + 1) ge in omega (arith, q, to))
              (cases_lt own (c + 1));
        }

    all-stay : (i : ℕ) (u : Timer) → slice_get (remove room at) i ≡ Some u → IsWithin new (bucket_of u.deadline) i
    all-stay i u e = ⊎_elim
        (λ (lt : i < at). stay-before i (bucket_of u.deadline) (bucket-below u.deadline) lt (is.placed i u (sym (get-remove_below room at i lt) ∙ e)))
        (λ (le : at ≤ i). stay-behind i (bucket_of u.deadline) (bucket-below u.deadline) le (is.placed (suc i) u (sym (get-remove_above room at i le) ∙ e)))
        (cases_lt i at)

    pub buckets-take : AreBuckets (remove room at) new
    buckets-take = record { size = size; rise = less-rises; last = less-lasts; placed = all-stay }

-- as the program says it
pub put-keeps : (room items : List Timer) (old new : List ℕ) (t : Timer) (bucket : ℕ) → bucket ≡ bucket_of t.deadline → AreBuckets room old → length new ≡ 65 → ((k : ℕ) → k < 65 → slice_index new k ≡ slice_index old k + count_of (nat_lt bucket k)) → items ≡ insert room (slice_index old (bucket + 1)) t → AreBuckets items new
put-keeps room items old new t bucket e is size moved same =
    subst (λ xs. AreBuckets xs new) (sym (same ∙ ap (λ m. insert room (slice_index old (m + 1)) t) e))
    (buckets-put room old new t is size (subst (λ m. (k : ℕ) → k < 65 → slice_index new k ≡ slice_index old k + count_of (nat_lt m k)) e moved))

pub take-keeps : (room items : List Timer) (old new : List ℕ) (t : Timer) (at bucket : ℕ) → bucket ≡ bucket_of t.deadline → AreBuckets room old → slice_get room at ≡ Some t → length new ≡ 65 → ((k : ℕ) → k < 65 → slice_index new k + count_of (nat_lt bucket k) ≡ slice_index old k) → items ≡ remove room at → AreBuckets items new
take-keeps room items old new t at bucket e is there size moved same =
    subst (λ xs. AreBuckets xs new) (sym same)
    (buckets-take room old t at is there new size (subst (λ m. (k : ℕ) → k < 65 → slice_index new k + count_of (nat_lt m k) ≡ slice_index old k) e moved))

pub below-length : (room seen : List Timer) (at : ℕ) → room ≡ seen → at < length seen → at < length room
below-length room seen at e lt = subst (λ xs. at < length xs) (sym e) lt

pub taken-there : (room seen : List Timer) (at : ℕ) (t : Timer) → room ≡ seen → at < length seen → t ≡ get_or room at t → slice_get room at ≡ Some t
taken-there room seen at t e lt h = slice_get_read room (length room) at t refl (below-length room seen at e lt) h
