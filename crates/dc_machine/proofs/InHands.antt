-- A sound machine has the blocks of each share in hand.
use Rattle.std.proofs.Common.{◌≡◌, ℕ, suc, ◌+◌, ◌*◌, ◌^◌, ◌<◌, ◌≤◌, false, List, [], ◌∷◌, Some, refl, ap, ◌∙◌, subst, sym, arith, length}
use Rattle.std.specs.Prelude.{slice_get, ◌==◌, pos, ◌+ℤ◌, ◌≤ℤ◌}
use Rattle.std.specs.List.{sum_by}
use Rattle.std.proofs.lemmas.Bool.Decides.{nat_tests}
use Rattle.std.proofs.lemmas.List.Sums.{sum_by-cons}
use Rattle.dc_base.specs.declared.interrupts.Timer.{Timer}
use Rattle.dc_base.specs.Bounded.{budget, IsFromZero}
use Rattle.dc_base.specs.ControlBlocks.{ControlBlock}
use Rattle.dc_base.specs.Placed.{IsOn}
use Rattle.dc_base.specs.Sound.{IsSound}
use Rattle.dc_base.specs.States.{State, Core, Block, Whereabouts, rest, on, time_of, time_on, clock_of}
use Rattle.dc_base.specs.Words.{Each}
use Rattle.dc_kernel.specs.Begins.{IsQuantum}
use Rattle.dc_objects.specs.Blocks.{CanSlice}
use Rattle.dc_sound.proofs.Times.{clock_of-at}
use Rattle.dc_bodies.specs.InHand.{AreInHand, IsInHand}

-- cores that used at most m each used at most m for each core
used_most : (cores : List Core) (m : ℕ) → Each cores (λ c k. k.used ≤ m) → sum_by (λ (k : Core). k.used) cores ≤ length cores * m
used_most [] m h = omega arith
used_most (k ∷ ks) m h =
    let one = h 0 k refl in
    let more = used_most ks m (λ c x at. h (suc c) x at) in
    let sum = sum_by-cons (λ (x : Core). x.used) k ks in
    omega (arith, one, more, sum)

-- a block of core c, from the bounds of its parts
hand_by : (cores : List Core) (c : ℕ) (k : Core) (n : ℕ) (x : ControlBlock) (w : Whereabouts) → slice_get cores c ≡ Some k → n ≤ 241664 → k.clock < 2 ^ 62 + n * 2 ^ 32 → IsOn c w → IsFromZero cores w → time_of cores w < 2 ^ 62 + n * 2 ^ 32 →
    CanSlice (record { control = x; whereabouts = w }) → Each x.parts.timers (λ i (t : Timer). t.deadline < time_of cores w + 2 ^ 32) → IsInHand c k.clock (record { control = x; whereabouts = w })
hand_by cores c k n x (rest kept) at most clock here zero time bounds near = absurd here
hand_by cores c k n x (on d offset v) at most clock here zero time bounds near =
    let same : clock_of cores d ≡ k.clock = ap (clock_of cores) here ∙ clock_of-at cores c k at in
    record {
      here = here;
      timed = record {
        held = tt;
        timely = record {
          clock = omega (arith, clock, most);
          from_zero = subst (λ m. pos 0 ≤ℤ (pos m +ℤ offset)) same zero;
          time = let t = subst (λ m. time_on m offset < 2 ^ 62 + n * 2 ^ 32) same time in omega (arith, t, most);
        };
      };
      bounds = bounds;
      near = subst (λ m. Each x.parts.timers (λ i (t : Timer). t.deadline < time_on m offset + 2 ^ 32)) same near;
    }

module _ (s : State) (p : IsSound s) where
  -- all cores together use at most so much
  pub budget_most : budget s ≤ 241664
  budget_most =
      let each : Each s.cores (λ c k. k.used ≤ s.script.settings.slices) = λ c k at. subst (λ t. k.used ≤ t.slices) (p.settled.same c k at) (p.counted.used c k at) in
      let most = used_most s.cores s.script.settings.slices each in
      let same : length s.cores * s.script.settings.slices ≡ s.script.settings.cores * s.script.settings.slices = ap (λ n. n * s.script.settings.slices) p.settled.cores in
      let all = p.settled.limits.all_slices in
      omega (arith, most, same, all)

  -- a block of core c is within bounds, and its deadlines are near
  pub block_in_hand : (c : ℕ) (k : Core) (b : ℕ) (x : Block) → slice_get s.cores c ≡ Some k → slice_get s.blocks b ≡ Some x → IsOn c x.whereabouts → IsInHand c k.clock x
  block_in_hand c k b x at found here =
      let most = budget_most in
      let number = p.numbers b x found in
      hand_by s.cores c k (budget s) x.control x.whereabouts at most (p.clocked.clocks c k at) here (p.clocked.from_zero b x found) (p.clocked.times b x found)
      (record { timers = omega (arith, number, most); dues = λ d due e. let h = p.dues b x found d due e in omega (arith, h, most) })
      (p.deadlines b x found)

  -- the blocks of a core's share are there, within bounds, and their deadlines are near
  pub in_hand : (c : ℕ) (k : Core) → slice_get s.cores c ≡ Some k → AreInHand c k (slice_get s.blocks)
  in_hand c k at b listed =
      let x = p.placed.only c k at b listed in
      (x.0, x.1, block_in_hand c k b x.0 at x.1 x.2)

  -- its quantum is one
  pub quantum_is : (c : ℕ) (k : Core) → slice_get s.cores c ≡ Some k → IsQuantum k.settings.quantum
  quantum_is c k at = subst (λ t. IsQuantum t.quantum) (sym (p.settled.same c k at)) p.settled.limits.quantum

  -- a core that has not used its budget can use some of it
  pub budget_left : (c : ℕ) (k : Core) → slice_get s.cores c ≡ Some k → (k.used == k.settings.slices) ≡ false → k.used < k.settings.slices
  budget_left c k at h = let most = p.counted.used c k at in grind (arith, nat_tests)

  -- its clock is far from the largest
  pub clock_low : (c : ℕ) (k : Core) → slice_get s.cores c ≡ Some k → k.clock < 2 ^ 63
  clock_low c k at = let low = p.clocked.clocks c k at in let most = budget_most in omega (arith, low, most)
