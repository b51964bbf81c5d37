-- How large the numbers of a sound state are.
use Rattle.std.proofs.Common.{◌≡◌, ℕ, suc, ◌+◌, ◌*◌, ◌^◌, ◌<◌, ◌≤◌, Bool, true, false, not, cond, List, [], ◌∷◌, Some, refl, ap, subst, arith, length}
use Rattle.std.specs.Prelude.{slice_get}
use Rattle.std.specs.List.{sum_by}
use Rattle.std.proofs.lemmas.List.Sums.{sum_by-cons, count_by-le-length}
use Rattle.std.proofs.lemmas.Option.{slice_get_within}
use Rattle.dc_base.specs.declared.commands.ScriptLine.{ScriptLine}
use Rattle.dc_base.specs.Words.{Each}
use Rattle.dc_base.specs.Lines.{Wire}
use Rattle.dc_base.specs.Script.{is_command}
use Rattle.dc_base.specs.Placed.{homes_in, parked_in}
use Rattle.dc_base.specs.States.{State, Core, Block, Member, time_of}
use Rattle.dc_base.specs.Bounded.{budget}
use Rattle.dc_base.specs.Sound.{IsSound}

-- cores that used at most m each used at most m for each core
used_most : (cores : List Core) (m : ℕ) → Each cores (λ c k. k.used ≤ m) → sum_by (λ (k : Core). k.used) cores ≤ length cores * m
used_most [] m h = omega arith
used_most (k ∷ ks) m h =
    let one = h 0 k refl in
    let more = used_most ks m (λ c x at. h (suc c) x at) in
    let sum = sum_by-cons (λ (x : Core). x.used) k ks in
    omega (arith, one, more, sum)

-- a member is home or parked
one_part : (t : Bool) → cond (not t) 1 0 + cond t 1 0 ≡ 1
one_part true = refl
one_part false = refl

share_parts : (share : List Member) → length share ≡ homes_in share + parked_in share
share_parts [] = refl
share_parts (m ∷ ms) =
    let more = share_parts ms in
    let one = one_part m.parked in
    let homes = sum_by-cons (λ (x : Member). cond (not x.parked) 1 0) m ms in
    let parks = sum_by-cons (λ (x : Member). cond x.parked 1 0) m ms in
    omega (arith, more, one, homes, parks)

module _ (s : State) (p : IsSound s) where
  pub core_small : (c : ℕ) (k : Core) → slice_get s.cores c ≡ Some k → c < 2 ^ 32
  core_small c k at = let within = slice_get_within s.cores c k at in let many = p.settled.cores in let most = p.settled.limits.cores.1 in omega (arith, within, many, most)

  pub block_small : (b : ℕ) (x : Block) → slice_get s.blocks b ≡ Some x → b < 2 ^ 32
  block_small b x at = let within = slice_get_within s.blocks b x at in let many = p.settled.blocks in let most = p.settled.limits.blocks.1 in omega (arith, within, many, most)

  pub core_within : (c : ℕ) → c < s.script.settings.cores → c < 2 ^ 32
  core_within c within = let most = p.settled.limits.cores.1 in omega (arith, within, most)

  pub block_within : (b : ℕ) → b < s.script.settings.blocks → b < 2 ^ 32
  block_within b within = let most = p.settled.limits.blocks.1 in omega (arith, within, most)

  pub line_small : (l : ℕ) (w : Wire) → slice_get s.lines l ≡ Some w → l < 2 ^ 32
  line_small l w at = let within = slice_get_within s.lines l w at in let many = p.settled.lines in let most = p.settled.limits.lines in omega (arith, within, many, most)

  pub place_small : (q : ℕ) (l : ScriptLine) → slice_get s.script.lines q ≡ Some l → q < 2 ^ 32
  place_small q l at = let within = slice_get_within s.script.lines q l at in let most = p.settled.script in omega (arith, within, most)

  pub dispatcher_small : (b : ℕ) (x : Block) (d : ℕ) → slice_get s.blocks b ≡ Some x → d < length x.control.states → d < 2 ^ 32
  dispatcher_small b x d at within = let most = (p.shapes b x at).disps in omega (arith, within, most)

  pub share_small : (c : ℕ) (k : Core) → slice_get s.cores c ≡ Some k → length k.share < 2 ^ 32
  share_small c k at =
      let parts = share_parts k.share in
      let home = (p.shares c k at).home in
      let parked = (p.shares c k at).parked in
      omega (arith, parts, home, parked)

  -- a line was raised at most as often as the script has lines
  pub raised_small : (l : ℕ) (w : Wire) → slice_get s.lines l ≡ Some w → w.counts.raised + 1 < 2 ^ 32
  raised_small l w at =
      let made = p.counted.raised l w at in
      let lines = p.in_form.raises in
      let all = count_by-le-length (λ (x : ScriptLine). not (is_command x)) s.script.lines in
      let most = p.settled.script in
      omega (arith, made, lines, all, most)

  pub budget_most : budget s ≤ 241664
  budget_most =
      let each : Each s.cores (λ c k. k.used ≤ s.script.settings.slices) = λ c k at. subst (λ t. k.used ≤ t.slices) (p.settled.same c k at) (p.counted.used c k at) in
      let most = used_most s.cores s.script.settings.slices each in
      let same : length s.cores * s.script.settings.slices ≡ s.script.settings.cores * s.script.settings.slices = ap (λ n. n * s.script.settings.slices) p.settled.cores in
      let all = p.settled.limits.all_slices in
      omega (arith, most, same, all)

  -- clocks and times have 64 bits, also after a slice
  pub clock_small : (c : ℕ) (k : Core) (n : ℕ) → slice_get s.cores c ≡ Some k → n ≤ 65 → k.clock + n < 2 ^ 64
  clock_small c k n at far = let low = p.clocked.clocks c k at in let most = budget_most in omega (arith, low, most, far)

  pub time_small : (b : ℕ) (x : Block) → slice_get s.blocks b ≡ Some x → time_of s.cores x.whereabouts < 2 ^ 64
  time_small b x at = let low = p.clocked.times b x at in let most = budget_most in omega (arith, low, most)
