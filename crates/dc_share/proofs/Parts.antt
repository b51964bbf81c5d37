-- What a share keeps where a block goes last, leaves or joins.
use Rattle.std.proofs.Common.{◌≡◌, ℕ, zero, suc, ◌+◌, ◌<◌, ◌≤◌, List, [], ◌∷◌, ◌++◌, Bool, true, false, refl, sym, ◌∙◌, subst, cond, length, arith}
use Rattle.std.specs.Prelude.{◌==◌, ◌||◌, not}
use Rattle.std.specs.List.{filter, count_by}
use Rattle.std.proofs.lemmas.List.Sums.{sum_by-cons, sum_by-append, sum_by_push}
use Rattle.std.proofs.lemmas.List.Filters.{sum_by-filter_both}
use Rattle.std.proofs.lemmas.Bool.Decides.{nat_tests}
use Rattle.dc_base.specs.Outcomes.{share_without, share_with_last, has}
use Rattle.dc_base.specs.Placed.{count_in, homes_in, parked_in}
use Rattle.dc_base.specs.States.{Member}
use Rattle.dc_share.specs.Shares.{IsWithin, HasRoom}

-- the two parts of a share have together what it has
parted : (p : Member → Bool) (b : ℕ) (share : List Member) → count_by p (filter (λ (m : Member). m.block == b) share) + count_by p (share_without b share) ≡ count_by p share
parted p b share = sum_by-filter_both (λ (m : Member). m.block == b) (λ (m : Member). not (m.block == b)) (λ m. refl) (λ m. cond (p m) 1 0) share

fewer : (p : Member → Bool) (b : ℕ) (share : List Member) → count_by p (share_without b share) ≤ count_by p share
fewer p b share = let e = parted p b share in omega (arith, e)

turned : (p : Member → Bool) (b : ℕ) (share : List Member) → count_by p (share_with_last b share) ≡ count_by p share
turned p b share =
    let e = parted p b share in
    let both = sum_by-append (λ m. cond (p m) 1 0) (share_without b share) (filter (λ (m : Member). m.block == b) share) in
    omega (arith, e, both)

-- a block is in a share exactly where it counts there
counted_by : (b : ℕ) (m : Member) (ms : List Member) → (has ms b ≡ true → 0 < count_in ms b) → (t : Bool) → (t || has ms b) ≡ true → 0 < cond t 1 0 + count_in ms b
counted_by b m ms more true h = omega arith
counted_by b m ms more false h = let k = more h in omega (arith, k)

counted : (b : ℕ) (share : List Member) → has share b ≡ true → 0 < count_in share b
counted b [] h = absurd (let bad : false ≡ true = h in cc)
counted b (m ∷ ms) h = subst (λ n. 0 < n) (sym (sum_by-cons (λ (n : Member). cond (n.block == b) 1 0) m ms)) (counted_by b m ms (λ k. counted b ms k) (m.block == b) h)

there_by : (b : ℕ) (m : Member) (ms : List Member) → (0 < count_in ms b → has ms b ≡ true) → (t : Bool) → 0 < cond t 1 0 + count_in ms b → (t || has ms b) ≡ true
there_by b m ms more true h = refl
there_by b m ms more false h = more (omega (arith, h))

there : (b : ℕ) (share : List Member) → 0 < count_in share b → has share b ≡ true
there b [] h = absurd (omega (arith, h))
there b (m ∷ ms) h = there_by b m ms (λ k. there b ms k) (m.block == b) (subst (λ n. 0 < n) (sum_by-cons (λ (n : Member). cond (n.block == b) 1 0) m ms) h)

pub turned_within : (b : ℕ) (share : List Member) → IsWithin share → IsWithin (share_with_last b share)
turned_within b share h = record {
  once = λ j. subst (λ n. n ≤ 1) (sym (turned (λ (m : Member). m.block == j) b share)) (h.once j);
  home = subst (λ n. n ≤ 1) (sym (turned (λ (m : Member). not m.parked) b share)) h.home;
  parked = subst (λ n. n ≤ 8) (sym (turned (λ (m : Member). m.parked) b share)) h.parked;
  below = λ j k. h.below j (there j share (subst (λ n. 0 < n) (turned (λ (m : Member). m.block == j) b share) (counted j (share_with_last b share) k)));
}

pub left_within : (b : ℕ) (share : List Member) → IsWithin share → IsWithin (share_without b share)
left_within b share h = record {
  once = λ j. let n = fewer (λ (m : Member). m.block == j) b share in let o = h.once j in omega (arith, n, o);
  home = let n = fewer (λ (m : Member). not m.parked) b share in let o = h.home in omega (arith, n, o);
  parked = let n = fewer (λ (m : Member). m.parked) b share in let o = h.parked in omega (arith, n, o);
  below = λ j k. h.below j (there j share (let n = fewer (λ (m : Member). m.block == j) b share in let c = counted j (share_without b share) k in omega (arith, n, c)));
}

none_there : (b : ℕ) (share : List Member) → has share b ≡ false → count_in share b ≡ 0
none_there b share h = let t : 0 < count_in share b → true ≡ false = λ k. sym (there b share k) ∙ h in zero_by (count_in share b) t
  where
    zero_by : (n : ℕ) → (0 < n → true ≡ false) → n ≡ 0
    zero_by zero t = refl
    zero_by (suc n) t = absurd (let bad : true ≡ false = t (omega arith) in cc)

module _ (b : ℕ) (parked : Bool) (share : List Member) (h : IsWithin share) (small : b < 16) (out : has share b ≡ false) (room : HasRoom parked share) where
  pushed : (p : Member → Bool) → count_by p (share ++ record { block = b; parked = parked } ∷ []) ≡ count_by p share + cond (p (record { block = b; parked = parked })) 1 0
  pushed p = sum_by_push (λ m. cond (p m) 1 0) share (record { block = b; parked = parked })

  once_by : (j : ℕ) (t : Bool) → (b == j) ≡ t → count_in share j + cond t 1 0 ≤ 1
  once_by j true g = let same : b ≡ j = grind (arith, nat_tests, g) in let z : count_in share j ≡ 0 = subst (λ i. count_in share i ≡ 0) same (none_there b share out) in omega (arith, z)
  once_by j false g = let o = h.once j in omega (arith, o)

  home_by : (t : Bool) → HasRoom t share → homes_in share + cond (not t) 1 0 ≤ 1
  home_by false r = omega (arith, r)
  home_by true r = let o = h.home in omega (arith, o)

  parked_by : (t : Bool) → HasRoom t share → parked_in share + cond t 1 0 ≤ 8
  parked_by false r = let o = h.parked in omega (arith, o)
  parked_by true r = omega (arith, r)

  below_by : (j : ℕ) (t : Bool) → (b == j) ≡ t → 0 < count_in share j + cond t 1 0 → j < 16
  below_by j true g k = let same : b ≡ j = grind (arith, nat_tests, g) in omega (arith, same, small)
  below_by j false g k = h.below j (there j share (omega (arith, k)))

  pub joined_within : IsWithin (share ++ record { block = b; parked = parked } ∷ [])
  joined_within = record {
    once = λ j. subst (λ n. n ≤ 1) (sym (pushed (λ (m : Member). m.block == j))) (once_by j (b == j) refl);
    home = subst (λ n. n ≤ 1) (sym (pushed (λ (m : Member). not m.parked))) (home_by parked room);
    parked = subst (λ n. n ≤ 8) (sym (pushed (λ (m : Member). m.parked))) (parked_by parked room);
    below = λ j k. below_by j (b == j) refl (subst (λ n. 0 < n) (pushed (λ (m : Member). m.block == j)) (counted j (share ++ record { block = b; parked = parked } ∷ []) k));
  }

all_by : (share : List Member) (m : Member) → length share ≡ homes_in share + parked_in share → (t : Bool) → suc (length share) ≡ (cond (not t) 1 0 + homes_in share) + (cond t 1 0 + parked_in share)
all_by share m h true = omega (arith, h)
all_by share m h false = omega (arith, h)

-- each block is home or parked
length_is : (share : List Member) → length share ≡ homes_in share + parked_in share
length_is [] = refl
length_is (m ∷ ms) =
    let e = sum_by-cons (λ (n : Member). cond (not n.parked) 1 0) m ms in
    let f = sum_by-cons (λ (n : Member). cond n.parked 1 0) m ms in
    let g = all_by ms m (length_is ms) m.parked in omega (arith, e, f, g)

pub room_for_one : (parked : Bool) (share : List Member) → IsWithin share → HasRoom parked share → length share < 9
room_for_one false share h r = let e = length_is share in let p = h.parked in omega (arith, e, p, r)
room_for_one true share h r = let e = length_is share in let p = h.home in omega (arith, e, p, r)

pub at_most_nine : (share : List Member) → IsWithin share → length share ≤ 9
at_most_nine share h = let e = length_is share in let p = h.parked in let o = h.home in omega (arith, e, p, o)
