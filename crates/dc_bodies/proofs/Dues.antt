-- The first due of the timers of a share, as it is searched.
use Rattle.std.proofs.Common.{◌≡◌, ℕ, suc, ◌+◌, ◌<◌, ◌≤◌, ◌^◌, List, [], ◌∷◌, ◌++◌, Bool, true, false, Option, Some, None, refl, ap, ◌∙◌, subst, cond, length, take, arith, map}
use Rattle.std.specs.Prelude.{slice_get, nat_lt, ◌||◌, ◌&&◌, ◌==◌, ℤ, pos, negsuc, ◌-ℤ◌, ◌+ℤ◌, ◌≤ℤ◌, ◌<ℤ◌, IfSome}
use Rattle.std.specs.List.{flat_map}
use Rattle.std.specs.Option.{option_map}
use Rattle.std.proofs.lemmas.Bool.Decides.{nat_tests}
use Rattle.std.proofs.lemmas.Grind.{flat_map-append}
use Rattle.std.proofs.lemmas.Int.{ints}
use Rattle.std.proofs.lemmas.List.{take_more, take_all, length-map, map-append}
use Rattle.std.proofs.lemmas.List.Concat.{flat_map-cons}
use Rattle.std.proofs.lemmas.Option.{none-some, same_Some, slice_get_within, get_or_from_slice_get}
use Rattle.dc_base.specs.declared.interrupts.Timer.{Timer}
use Rattle.dc_base.specs.Outcomes.{share_blocks}
use Rattle.dc_base.specs.States.{Block, Member, Whereabouts, rest, on}
use Rattle.dc_base.specs.IdleTurns.{due_clocks, due_clock, next_due}
use Rattle.dc_base.specs.Timers.{soonest, sooner, is_sooner}
use Rattle.dc_base.specs.Turns.{Looked}
use Rattle.dc_base.specs.Words.{least, lesser, above_zero}
use Rattle.dc_objects.specs.Blocks.{IsHeld, running_of}
use Rattle.dc_bodies.specs.InHand.{IsInHand}
use Rattle.dc_bodies.specs.Nexts.{earlier}
use Rattle.dc_bodies.proofs.Firsts.{look}

least_one : (x n : ℕ) → Some (lesser x (Some n)) ≡ Some (lesser n (Some x))
least_one x n = ap Some (turned x n)
  where
    turned : (x n : ℕ) → cond (nat_lt n x) n x ≡ cond (nat_lt x n) x n
    turned x n = grind (arith, nat_tests)

least_both : (x m n : ℕ) → Some (lesser x (Some (lesser n (Some m)))) ≡ Some (lesser n (Some (lesser x (Some m))))
least_both x m n = ap Some (turned x m n)
  where
    turned : (x m n : ℕ) → cond (nat_lt (cond (nat_lt m n) m n) x) (cond (nat_lt m n) m n) x ≡ cond (nat_lt (cond (nat_lt m x) m x) n) (cond (nat_lt m x) m x) n
    turned x m n = grind (arith, nat_tests)

earlier_by : (x : ℕ) (a b : Option ℕ) → Some (lesser x (earlier a b)) ≡ earlier (Some (lesser x a)) b
earlier_by x None None = refl
earlier_by x (Some m) None = refl
earlier_by x None (Some n) = least_one x n
earlier_by x (Some m) (Some n) = least_both x m n

earlier_none : (o : Option ℕ) → o ≡ earlier None o
earlier_none None = refl
earlier_none (Some n) = refl

pub least-append : (xs ys : List ℕ) → least (xs ++ ys) ≡ earlier (least xs) (least ys)
least-append [] ys = earlier_none (least ys)
least-append (x ∷ xs) ys = ap (λ o. Some (lesser x o)) (least-append xs ys) ∙ earlier_by x (least xs) (least ys)

-- the least of what grows with the deadlines is that of the soonest
sooner_is : (a m b n : ℕ) (t : Bool) → (nat_lt b a || (b == a && nat_lt n m)) ≡ t → (t ≡ true → b ≤ a) × (t ≡ false → a ≤ b)
sooner_is a m b n t e = (λ h. grind (arith, nat_tests), λ h. grind (arith, nat_tests))

module _ (f : ℕ → ℕ) (grows : (a b : ℕ) → a ≤ b → f a ≤ f b) where
  by_test : (t u : Timer) (b : Bool) → (b ≡ true → u.deadline ≤ t.deadline) × (b ≡ false → t.deadline ≤ u.deadline) → Some (lesser (f t.deadline) (Some (f u.deadline))) ≡ Some (f (cond b u t).deadline)
  by_test t u true h = ap Some (below (f t.deadline) (f u.deadline) (grows u.deadline t.deadline (h.0 refl)))
    where
      below : (x y : ℕ) → y ≤ x → cond (nat_lt y x) y x ≡ y
      below x y h = grind (arith, nat_tests)
  by_test t u false h = ap Some (above (f t.deadline) (f u.deadline) (grows t.deadline u.deadline (h.1 refl)))
    where
      above : (x y : ℕ) → x ≤ y → cond (nat_lt y x) y x ≡ x
      above x y h = grind (arith, nat_tests)

  by_soonest : (t : Timer) (o : Option Timer) → Some (lesser (f t.deadline) (option_map (λ (u : Timer). f u.deadline) o)) ≡ Some (f (sooner t o).deadline)
  by_soonest t None = refl
  by_soonest t (Some u) = by_test t u (is_sooner u t) (sooner_is t.deadline t.number u.deadline u.number (is_sooner u t) refl)

  pub least_is : (ts : List Timer) → least (map (λ (t : Timer). f t.deadline) ts) ≡ option_map (λ (t : Timer). f t.deadline) (soonest ts)
  least_is [] = refl
  least_is (t ∷ ts) = ap (λ o. Some (lesser (f t.deadline) o)) (least_is ts) ∙ by_soonest t (soonest ts)

above_zero_grows : (z w : ℤ) → z ≤ℤ w → above_zero z ≤ above_zero w
above_zero_grows (pos m) (pos n) h = omega (arith, ints, h)
above_zero_grows (pos m) (negsuc n) h = absurd (omega (arith, ints, h))
above_zero_grows (negsuc m) (pos n) h = omega arith
above_zero_grows (negsuc m) (negsuc n) h = omega arith

clock_grows : (offset : ℤ) (a b : ℕ) → a ≤ b → above_zero (pos a -ℤ offset) ≤ above_zero (pos b -ℤ offset)
clock_grows offset a b h = above_zero_grows (pos a -ℤ offset) (pos b -ℤ offset) (omega (arith, ints, h))

-- the first due of a block
abbrev pub due_in : Block → Option ℤ
due_in x = option_map (λ (t : Timer). pos t.deadline -ℤ (running_of x).offset) (soonest x.control.parts.timers)

maps_twice : (offset : ℤ) (o : Option Timer) → option_map (λ (t : Timer). above_zero (pos t.deadline -ℤ offset)) o ≡ option_map above_zero (option_map (λ (t : Timer). pos t.deadline -ℤ offset) o)
maps_twice offset None = refl
maps_twice offset (Some t) = refl

due_by : (x : Block) (w : Whereabouts) → x.whereabouts ≡ w → IsHeld (record x { whereabouts = w }) → least (map (due_clock w) x.control.parts.timers) ≡ option_map above_zero (due_in (record x { whereabouts = w }))
due_by x (rest kept) e h = absurd h
due_by x (on c offset v) e h = least_is (λ d. above_zero (pos d -ℤ offset)) (clock_grows offset) x.control.parts.timers ∙ maps_twice offset (soonest x.control.parts.timers)

pub due_of : (x : Block) → IsHeld x → least (due_clocks (Some x)) ≡ option_map above_zero (due_in x)
due_of x h = due_by x x.whereabouts refl h

-- it is near
soonest_has : (P : Timer → Type 0) (ts : List Timer) (s : Timer) → ((i : ℕ) (t : Timer) → slice_get ts i ≡ Some t → P t) → soonest ts ≡ Some s → P s
soonest_has P [] s all e = absurd (none-some s e)
soonest_has P (t ∷ ts) s all e = subst P (same_Some (sooner t (soonest ts)) s e) (by_rest (λ m q. soonest_has P ts m (λ i u h. all (suc i) u h) q) (soonest ts) refl)
  where
    by_sooner : (m : Timer) (b : Bool) → P m → P (cond b m t)
    by_sooner m true h = h
    by_sooner m false h = all 0 t refl

    by_rest : ((m : Timer) → soonest ts ≡ Some m → P m) → (o : Option Timer) → soonest ts ≡ o → P (sooner t o)
    by_rest more None q = all 0 t refl
    by_rest more (Some m) q = by_sooner m (is_sooner m t) (more m q)

soonest_near : (offset : ℤ) (ts : List Timer) → ((i : ℕ) (t : Timer) → slice_get ts i ≡ Some t → (pos t.deadline -ℤ offset) <ℤ pos (2 ^ 64)) → (o : Option Timer) → soonest ts ≡ o → IfSome (option_map (λ (t : Timer). pos t.deadline -ℤ offset) o) (λ (z : ℤ). z <ℤ pos (2 ^ 64))
soonest_near offset ts all None e = tt
soonest_near offset ts all (Some s) e = soonest_has (λ (t : Timer). (pos t.deadline -ℤ offset) <ℤ pos (2 ^ 64)) ts s all e

due_below : (clock : ℕ) (offset z : ℤ) (d : ℕ) → pos clock +ℤ offset ≡ z → pos 0 ≤ℤ z → d < above_zero z + 2 ^ 32 → clock < 2 ^ 63 → (pos d -ℤ offset) <ℤ pos (2 ^ 64)
due_below clock offset (pos m) d e h n k = omega (arith, ints, e, n, k)
due_below clock offset (negsuc m) d e h n k = absurd (omega (arith, ints, h))

near_by : (c clock : ℕ) (x : Block) (w : Whereabouts) → IsInHand c clock (record x { whereabouts = w }) → IfSome (due_in (record x { whereabouts = w })) (λ (z : ℤ). z <ℤ pos (2 ^ 64))
near_by c clock x (rest kept) h = absurd h.here
near_by c clock x (on d offset v) h =
    let timely = h.timed.timely in
    soonest_near offset x.control.parts.timers (λ i t e. due_below clock offset (pos clock +ℤ offset) t.deadline refl timely.from_zero (h.near i t e) timely.clock) (soonest x.control.parts.timers) refl

pub near_of : (c clock : ℕ) (x : Block) → IsInHand c clock x → IfSome (due_in x) (λ (z : ℤ). z <ℤ pos (2 ^ 64))
near_of c clock x h = near_by c clock x x.whereabouts h

module _ (seen : ℕ → Option Block) where
  abbrev dues : List ℕ → List ℕ
  dues bs = flat_map (λ (l : Looked). due_clocks l.found) (map (look seen) bs)

  -- the first due of the blocks before a place
  abbrev pub due_before : ℕ → List Member → Option ℕ
  due_before i share = least (dues (take i (share_blocks share)))

  pub due_more : (share : List Member) (i b : ℕ) (x : Block) → slice_get (share_blocks share) i ≡ Some b → seen b ≡ Some x → IsHeld x → due_before (i + 1) share ≡ earlier (due_before i share) (option_map above_zero (due_in x))
  due_more share i b x at there held =
      let bs = share_blocks share in
      let more : take (i + 1) bs ≡ take i bs ++ b ∷ [] = take_more bs i b (slice_get_within bs i b at) ∙ ap (λ n. take i bs ++ n ∷ []) (get_or_from_slice_get bs i b b at) in
      let both : dues (take i bs ++ b ∷ []) ≡ dues (take i bs) ++ dues (b ∷ []) = ap (flat_map (λ (l : Looked). due_clocks l.found)) (map-append (look seen) (take i bs) (b ∷ [])) ∙ flat_map-append (λ (l : Looked). due_clocks l.found) (map (look seen) (take i bs)) (map (look seen) (b ∷ [])) in
      let one : least (dues (b ∷ [])) ≡ option_map above_zero (due_in x) = ap least (flat_map-cons (λ (l : Looked). due_clocks l.found) (look seen b) []) ∙ (least-append (due_clocks (seen b)) [] ∙ (ap (λ o. least (due_clocks o)) there ∙ due_of x held)) in
      ap (λ bs. least (dues bs)) more ∙ (ap least both ∙ (least-append (dues (take i bs)) (dues (b ∷ [])) ∙ ap (earlier (due_before i share)) one))

  pub due_all : (share : List Member) (i : ℕ) → length share ≤ i → due_before i share ≡ next_due (map (look seen) (share_blocks share))
  due_all share i h = ap (λ bs. least (dues bs)) (take_all i (share_blocks share) (let n = length-map share (λ (m : Member). m.block) in omega (arith, n, h)))
