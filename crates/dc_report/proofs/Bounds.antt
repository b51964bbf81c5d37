-- Clocks and times of a sound state fit their types.
use Rattle.std.proofs.Common.{◌≡◌, ℕ, ◌+◌, ◌*◌, ◌^◌, ◌<◌, ◌≤◌, List, [], ◌∷◌, Option, Some, None, refl, sym, ap, subst, length, arith}
use Rattle.std.specs.Prelude.{slice_get, sum_by}
use Rattle.std.specs.Option.{option_map_or}
use Rattle.std.proofs.lemmas.List.Sums.{sum_by-cons}
use Rattle.dc_base.specs.Bounded.{budget, IsFromZero}
use Rattle.dc_base.specs.Sound.{IsSound}
use Rattle.dc_base.specs.States.{State, Core, Block, Whereabouts, rest, on, core_in, time_at, time_of, clock_of}
use Rattle.dc_base.specs.Words.{Each}
use Rattle.dc_base.proofs.EachLaws.{each_first, each_rest}
use Rattle.dc_kernel.specs.Running.{IsTimely}
use Rattle.dc_objects.specs.Blocks.{IsHeldAt, running_at}
use Rattle.dc_objects.specs.Places.{IsTimedAt, IsTimedOrResting}
use Rattle.dc_report.specs.Clocks.{clock_on}

used_within : (n : ℕ) (cores : List Core) → Each cores (λ c (k : Core). k.used ≤ n) → sum_by (λ (k : Core). k.used) cores ≤ length cores * n
used_within n [] h = omega arith
used_within n (k ∷ cores) h =
    let first = each_first (λ c (m : Core). m.used ≤ n) k cores h in
    let more = used_within n cores (each_rest (λ c (m : Core). m.used ≤ n) k cores h) in
    let e = sum_by-cons (λ (m : Core). m.used) k cores in
    omega (arith, first, more, e)

module _ (s : State) (sound : IsSound s) where
  pub budget_within : budget s ≤ 241664
  budget_within =
      let used = used_within s.script.settings.slices s.cores (λ c k e. subst (λ t. k.used ≤ t.slices) (sound.settled.same c k e) (sound.counted.used c k e)) in
      let many : length s.cores * s.script.settings.slices ≡ s.script.settings.cores * s.script.settings.slices = ap (λ n. n * s.script.settings.slices) sound.settled.cores in
      let most = sound.settled.limits.all_slices in
      omega (arith, used, many, most)

  clock_by : (c : ℕ) (o : Option Core) → slice_get s.cores c ≡ o → option_map_or (λ (k : Core). k.clock) o 0 < 2 ^ 63
  clock_by c None e = omega arith
  clock_by c (Some k) e = let h = sound.clocked.clocks c k e in let b = budget_within in omega (arith, h, b)

  pub clock_within : (c : ℕ) → clock_of s.cores c < 2 ^ 63
  clock_within c = clock_by c (slice_get s.cores c) refl

  timed_by : (clock : ℕ) (x : Block) (w : Whereabouts) → x.whereabouts ≡ w → clock ≡ clock_on s.cores (core_in w) → IsFromZero s.cores w → time_of s.cores w < 2 ^ 62 + budget s * 2 ^ 32 → IsTimedAt clock x w
  timed_by clock x (rest kept) e q z t = tt
  timed_by clock x (on c offset v) e q z t =
      let most = budget_within in
      let timely : IsTimely (clock_of s.cores c) (running_at x (on c offset v)) = record {
        clock = clock_within c;
        from_zero = z;
        time = omega (arith, t, most);
      } in
      record {
        held = subst IsHeldAt (sym e) tt;
        timely = subst (λ u. IsTimely clock (running_at x u)) (sym e) (subst (λ n. IsTimely n (running_at x (on c offset v))) (sym q) timely);
      }

  pub timed : (clock b : ℕ) (x : Block) → slice_get s.blocks b ≡ Some x → clock ≡ clock_on s.cores (core_in x.whereabouts) → IsTimedOrResting clock x
  timed clock b x e q = timed_by clock x x.whereabouts refl q (sound.clocked.from_zero b x e) (sound.clocked.times b x e)

same_time : (cores : List Core) (clock : ℕ) (w : Whereabouts) → clock ≡ clock_on cores (core_in w) → time_at clock w ≡ time_of cores w
same_time cores clock (rest kept) q = refl
same_time cores clock (on c offset v) q = ap (λ n. time_at n (on c offset v)) q

pub time_is : (cores : List Core) (clock : ℕ) (x : Block) → clock ≡ clock_on cores (core_in x.whereabouts) → time_at clock x.whereabouts ≡ time_of cores x.whereabouts
time_is cores clock x q = same_time cores clock x.whereabouts q
