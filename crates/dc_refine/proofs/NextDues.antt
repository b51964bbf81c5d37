-- The core clock at which the first timer of a share is due, and how long until the first timer of the blocks held is due.
use Rattle.std.proofs.Common.{◌≡◌, ℕ, ◌+◌, ◌-◌, ◌<◌, ◌≤◌, List, [], ◌∷◌, Bool, true, false, Option, Some, None, refl, sym, ap, ◌∙◌, subst, map, arith, inl, inr, ℤ, pos, negsuc, ◌+ℤ◌, ◌-ℤ◌, ◌≤ℤ◌}
use Rattle.std.specs.Prelude.{slice_get, nat_lt, nat_le, find, ◌==◌, ◌&&◌, ◌||◌, if◌then◌else◌, is_some, length}
use Rattle.std.specs.List.{flat_map}
use Rattle.std.specs.Option.{option_map_or}
use Rattle.std.proofs.lemmas.Int.{ints}
use Rattle.std.proofs.lemmas.Bool.Decides.{nat_tests}
use Rattle.std.proofs.lemmas.Bool.{or_parts}
use Rattle.dc_base.specs.declared.interrupts.Timer.{Timer}
use Rattle.dc_base.specs.Words.{least, above_zero}
use Rattle.dc_base.specs.Timers.{due_timer, is_due, soonest, sooner, if_due}
use Rattle.dc_base.specs.Blocks.{Blocks}
use Rattle.dc_base.specs.States.{State, Core, Block, Whereabouts, rest, on, time_of, time_at, time_on, clock_of}
use Rattle.dc_base.specs.Turns.{Looked, looked_at}
use Rattle.dc_base.specs.Outcomes.{share_blocks}
use Rattle.dc_base.specs.IdleTurns.{due_clock, due_clocks, next_due}
use Rattle.dc_base.specs.Steps.{is_runnable, can_run}
use Rattle.dc_base.specs.StandsFor.{StandsFor}
use Rattle.dc_base.specs.CoreColumns.{waits_of}
use Rattle.dc_base.specs.Holders.{held_by}
use Rattle.dc_base.specs.Placed.{IsPlaced, IsOn}
use Rattle.dc_base.specs.Telling.{holders_from}
use Rattle.dc_refine.proofs.Clocks.{InTime, AllInTime}
use Rattle.dc_refine.proofs.Members.{In, in_map, map_in, in_flat, flat_in, none_found, least_in, least_most, least_is}
use Rattle.dc_refine.proofs.Places.{has-in, in-has, in-held, held-on, on-has}
use Rattle.dc_refine.proofs.Stands.{block_seen}

-- the soonest timer has the least deadline
sooner_by : (t u : Timer) (a b : Bool) → nat_lt u.deadline t.deadline ≡ a → (u.deadline == t.deadline) ≡ b → (c : Bool) →
    ((if a || (b && c) then u else t).deadline ≤ t.deadline) × ((if a || (b && c) then u else t).deadline ≤ u.deadline)
sooner_by t u true b ae be c = let h : u.deadline < t.deadline = grind (arith, nat_tests, ae) in (omega arith, omega arith)
sooner_by t u false true ae be true = let h : u.deadline ≡ t.deadline = grind (arith, nat_tests, be) in (omega arith, omega arith)
sooner_by t u false true ae be false = let h : t.deadline ≤ u.deadline = grind (arith, nat_tests, ae) in (omega arith, h)
sooner_by t u false false ae be c = let h : t.deadline ≤ u.deadline = grind (arith, nat_tests, ae) in (omega arith, h)

sooner_most : (t u : Timer) → ((sooner t (Some u)).deadline ≤ t.deadline) × ((sooner t (Some u)).deadline ≤ u.deadline)
sooner_most t u = sooner_by t u (nat_lt u.deadline t.deadline) (u.deadline == t.deadline) refl refl (nat_lt u.number t.number)

none_soonest : (ts : List Timer) (x : Timer) → soonest ts ≡ None → In x ts → ⊥
none_soonest [] x h g = g
none_soonest (t ∷ ts) x h g = cc

soonest_by : (t : Timer) (ts : List Timer) (o : Option Timer) (u x : Timer) → ((r : Timer) → soonest ts ≡ Some r → In x ts → r.deadline ≤ x.deadline) → soonest ts ≡ o → Some (sooner t o) ≡ Some u → In x (t ∷ ts) → u.deadline ≤ x.deadline
soonest_by t ts None u x more e h (inl f) = let g : t ≡ u = cc in let k : u.deadline ≡ x.deadline = ap (λ (v : Timer). v.deadline) (sym g ∙ sym f) in omega (arith, k)
soonest_by t ts None u x more e h (inr f) = absurd (none_soonest ts x e f)
soonest_by t ts (Some r) u x more e h (inl f) =
    let g : sooner t (Some r) ≡ u = cc in let k = (sooner_most t r).0 in let l : x.deadline ≡ t.deadline = ap (λ (v : Timer). v.deadline) f in
    subst (λ (v : Timer). v.deadline ≤ x.deadline) g (omega (arith, k, l))
soonest_by t ts (Some r) u x more e h (inr f) =
    let g : sooner t (Some r) ≡ u = cc in let k = (sooner_most t r).1 in let l = more r e f in
    subst (λ (v : Timer). v.deadline ≤ x.deadline) g (omega (arith, k, l))

soonest_most : (ts : List Timer) (u x : Timer) → soonest ts ≡ Some u → In x ts → u.deadline ≤ x.deadline
soonest_most [] u x h g = absurd g
soonest_most (t ∷ ts) u x h g = soonest_by t ts (soonest ts) u x (λ r e f. soonest_most ts r x e f) refl h g

later_by : (time : ℕ) (ts : List Timer) (x u : Timer) → soonest ts ≡ Some u → In x ts → (t : Bool) → nat_le u.deadline time ≡ t → is_some (if t then Some u else None) ≡ false → time < x.deadline
later_by time ts x u e g true f h = cc
later_by time ts x u e g false f h = let k = soonest_most ts u x e g in let l : time < u.deadline = grind (arith, nat_tests, f) in omega (arith, k, l)

due_by : (time : ℕ) (ts : List Timer) (x : Timer) → In x ts → (o : Option Timer) → soonest ts ≡ o → is_some (if_due time o) ≡ false → time < x.deadline
due_by time ts x g None e h = absurd (none_soonest ts x e g)
due_by time ts x g (Some u) e h = later_by time ts x u e g (nat_le u.deadline time) refl h

-- where no timer is due all deadlines are later
pub not_due : (time : ℕ) (ts : List Timer) (x : Timer) → is_due time ts ≡ false → In x ts → time < x.deadline
unfolding due_timer
not_due time ts x h g = due_by time ts x g (soonest ts) refl h

-- the core clock at which a timer is due that is not due yet
due_at_by : (clock deadline : ℕ) (z w : ℤ) → pos clock +ℤ z ≡ w → pos 0 ≤ℤ w → above_zero w < deadline → above_zero (pos deadline -ℤ z) ≡ clock + (deadline - above_zero w)
due_at_by clock deadline z (pos m) e h later = let f : pos deadline -ℤ z ≡ pos (clock + (deadline - m)) = omega (arith, ints, e, later) in ap above_zero f
due_at_by clock deadline z (negsuc m) e h later = absurd (omega (arith, ints, h))

due_at : (clock deadline : ℕ) (z : ℤ) → pos 0 ≤ℤ (pos clock +ℤ z) → time_on clock z < deadline → above_zero (pos deadline -ℤ z) ≡ clock + (deadline - time_on clock z)
due_at clock deadline z h later = due_at_by clock deadline z (pos clock +ℤ z) refl h later

module _ (s : State) (t : Blocks) (placed : IsPlaced s) (in_time : AllInTime s.cores s.blocks) (stands : StandsFor s t) (consoles : (b : ℕ) (x : Block) → slice_get s.blocks b ≡ Some x → (ws : List ℕ) × (slice_get s.consoles b ≡ Some ws))
    (c : ℕ) (k : Core) (core_at : slice_get s.cores c ≡ Some k) (none_runs : find (is_runnable k.clock) (map (looked_at s.blocks) (share_blocks k.share)) ≡ None) where
  clock_is : clock_of s.cores c ≡ k.clock
  clock_is = ap (λ o. option_map_or (λ (k : Core). k.clock) o 0) core_at

  abbrev looked : List Looked
  looked = map (looked_at s.blocks) (share_blocks k.share)

  abbrev held : List ℕ
  held = held_by c (holders_from 0 s.blocks)

  -- a block on the core and its timers
  module _ (b : ℕ) (x : Block) (block_at : slice_get s.blocks b ≡ Some x) (is_on : IsOn c x.whereabouts) where
    listed : In b (share_blocks k.share)
    listed = has-in k.share b (on-has s placed b c k x block_at core_at is_on)

    cant_run : can_run k.clock x ≡ false
    cant_run =
        ap (λ o. option_map_or (can_run k.clock) o false) (sym block_at)
        ∙ none_found (is_runnable k.clock) looked (looked_at s.blocks b) none_runs (map_in (looked_at s.blocks) (share_blocks k.share) b listed)

    later : (u : Timer) → In u x.control.parts.timers → time_at k.clock x.whereabouts < u.deadline
    later u g = not_due (time_at k.clock x.whereabouts) x.control.parts.timers u (or_parts (nat_lt 0 (length x.control.ready)) (is_due (time_at k.clock x.whereabouts) x.control.parts.timers) cant_run).1 g

    clock_by : (w : Whereabouts) → IsOn c w → InTime s.cores w → (deadline : ℕ) → time_at k.clock w < deadline → (u : Timer) → u.deadline ≡ deadline → due_clock w u ≡ k.clock + (deadline - time_at k.clock w)
    clock_by (rest kept) h within deadline after u e = absurd h
    clock_by (on d z v) h within deadline after u e =
        let same : clock_of s.cores d ≡ k.clock = ap (clock_of s.cores) h ∙ clock_is in
        ap (λ n. above_zero (pos n -ℤ z)) e ∙ due_at k.clock deadline z (subst (λ n. pos 0 ≤ℤ (pos n +ℤ z)) same within) after

    time_is : (w : Whereabouts) → IsOn c w → time_of s.cores w ≡ time_at k.clock w
    time_is (rest kept) h = absurd h
    time_is (on d z v) h = ap (λ n. time_on n z) (ap (clock_of s.cores) h ∙ clock_is)

    due_clock-is : (u : Timer) → In u x.control.parts.timers → due_clock x.whereabouts u ≡ k.clock + (u.deadline - time_of s.cores x.whereabouts)
    due_clock-is u g = clock_by x.whereabouts is_on (in_time b x block_at) u.deadline (later u g) u refl ∙ ap (λ n. k.clock + (u.deadline - n)) (sym (time_is x.whereabouts is_on))

    waits_are : waits_of (slice_get t.blocks b) ≡ map (λ (u : Timer). u.deadline - time_of s.cores x.whereabouts) x.control.parts.timers
    waits_are = let console = consoles b x block_at in ap waits_of (block_seen s t stands b x console.0 block_at console.1)

    wait_some : (u : Timer) → In u x.control.parts.timers → 0 < u.deadline - time_of s.cores x.whereabouts
    wait_some u g = let h = later u g in let e = time_is x.whereabouts is_on in omega (arith, h, e)

    waits_in : (e : ℕ) → In e (waits_of (slice_get t.blocks b)) → In (k.clock + e) (flat_map (λ (l : Looked). due_clocks l.found) looked)
    waits_in e h =
        let r = in_map (λ (u : Timer). u.deadline - time_of s.cores x.whereabouts) x.control.parts.timers e (subst (In e) waits_are h) in
        let due : due_clock x.whereabouts r.0 ≡ k.clock + e = due_clock-is r.0 r.1 ∙ ap (λ n. k.clock + n) (sym r.2) in
        flat_in (λ (l : Looked). due_clocks l.found) looked (looked_at s.blocks b) (k.clock + e) (map_in (looked_at s.blocks) (share_blocks k.share) b listed)
        (subst (λ o. In (k.clock + e) (due_clocks o)) (sym block_at) (subst (λ n. In n (map (due_clock x.whereabouts) x.control.parts.timers)) due (map_in (due_clock x.whereabouts) x.control.parts.timers r.0 r.1)))

    dues_in : (n : ℕ) → In n (due_clocks (Some x)) → (e : ℕ) × In e (flat_map (λ b. waits_of (slice_get t.blocks b)) held) × (n ≡ k.clock + e) × (0 < e)
    dues_in n h =
        let r = in_map (due_clock x.whereabouts) x.control.parts.timers n h in
        let e : ℕ = r.0.deadline - time_of s.cores x.whereabouts in (
          e,
          flat_in (λ b. waits_of (slice_get t.blocks b)) held b e (in-held c 0 s.blocks b b x block_at is_on (omega arith))
              (subst (In e) (sym waits_are) (map_in (λ (u : Timer). u.deadline - time_of s.cores x.whereabouts) x.control.parts.timers r.0 r.1)),
          r.2 ∙ due_clock-is r.0 r.1,
          wait_some r.0 r.1,
        )

  due_by_block : (b n : ℕ) → In b (share_blocks k.share) → In n (due_clocks (slice_get s.blocks b)) → (e : ℕ) × In e (flat_map (λ b. waits_of (slice_get t.blocks b)) held) × (n ≡ k.clock + e) × (0 < e)
  due_by_block b n h g =
      let found = placed.only c k core_at b (in-has k.share b h) in
      dues_in b found.0 found.1 found.2 n (subst (λ o. In n (due_clocks o)) found.1 g)

  -- each due clock is that of a wait
  due_waits : (n : ℕ) → In n (flat_map (λ (l : Looked). due_clocks l.found) looked) → (e : ℕ) × In e (flat_map (λ b. waits_of (slice_get t.blocks b)) held) × (n ≡ k.clock + e) × (0 < e)
  due_waits n h =
      let l = in_flat (λ (l : Looked). due_clocks l.found) looked n h in
      let b = in_map (looked_at s.blocks) (share_blocks k.share) l.0 l.1 in
      due_by_block b.0 n b.1 (subst (λ (v : Looked). In n (due_clocks v.found)) b.2 l.2)

  -- each wait gives a due clock
  wait_dues : (e : ℕ) → In e (flat_map (λ b. waits_of (slice_get t.blocks b)) held) → In (k.clock + e) (flat_map (λ (l : Looked). due_clocks l.found) looked)
  wait_dues e h =
      let r = in_flat (λ b. waits_of (slice_get t.blocks b)) held e h in
      let there = held-on c 0 s.blocks r.0 r.1 in
      let number : there.place ≡ r.0 = omega (arith, there.number) in
      waits_in r.0 there.block (ap (slice_get s.blocks) (sym number) ∙ there.there) there.is_on e r.2

  -- the next due clock is as long after the core's clock as the least wait
  pub record IsNextDue (clock : ℕ) : Type 0 where
    pub wait : ℕ
    pub is_after : clock ≡ k.clock + wait
    pub some : 0 < wait
    pub is_least : least (flat_map (λ b. waits_of (slice_get t.blocks b)) held) ≡ Some wait

  pub next_due-is : (clock : ℕ) → next_due looked ≡ Some clock → IsNextDue clock
  next_due-is clock h =
      let dues : List ℕ = flat_map (λ (l : Looked). due_clocks l.found) looked in
      let r = due_waits clock (least_in dues clock h) in
      record {
        wait = r.0;
        is_after = r.2;
        some = r.3;
        is_least = least_is (flat_map (λ b. waits_of (slice_get t.blocks b)) held) r.0 r.1 (λ e g. let m = least_most dues clock (k.clock + e) h (wait_dues e g) in omega (arith, m, r.2));
      }
