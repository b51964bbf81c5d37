-- The time of a block that changes hands.
use Rattle.std.proofs.Common.{◌≡◌, ℕ, ◌^◌, ◌<◌, ◌≤◌, refl, ap, ◌∙◌, arith}
use Rattle.dc_base.specs.declared.kernels.Clocks.{Clocks}
use Rattle.dc_base.specs.declared.kernels.Clocks.TheVariants as clocks
use Rattle.dc_base.specs.Orders.{adopted_time}
use Rattle.dc_base.specs.States.{Block, Core, Whereabouts, rest, on, time_at}
use Rattle.dc_objects.specs.Blocks.{IsTimed}
use Rattle.dc_objects.specs.Places.{IsRestAt, IsResting, kept_at, kept_in, IsTimedAt, IsTimedOrResting}

timed_by : (clock : ℕ) (x : Block) (w : Whereabouts) → IsTimed clock x → IsTimedAt clock x w
timed_by clock x (rest kept) h = tt
timed_by clock x (on c offset v) h = h

pub timed_there : (clock : ℕ) (x : Block) → IsTimed clock x → IsTimedOrResting clock x
timed_there clock x h = timed_by clock x x.whereabouts h

resting_by : (clock : ℕ) (x : Block) (w : Whereabouts) → IsRestAt w → IsTimedAt clock x w
resting_by clock x (rest kept) h = tt
resting_by clock x (on c offset v) h = absurd h

pub resting_there : (clock : ℕ) (x : Block) → IsResting x → IsTimedOrResting clock x
resting_there clock x h = resting_by clock x x.whereabouts h

kept_by : (clock : ℕ) (w : Whereabouts) → IsRestAt w → time_at clock w ≡ kept_at w
kept_by clock (rest kept) h = refl
kept_by clock (on c offset v) h = absurd h

-- the time of a block at rest is the kept one
kept_time : (clock : ℕ) (x : Block) → IsResting x → time_at clock x.whereabouts ≡ kept_in x
kept_time clock x h = kept_by clock x.whereabouts h

-- the time of adoption lies between the bounds of the two times

from_kept : (t : Clocks) (kept clock : ℕ) → kept ≤ adopted_time t kept clock
from_kept clocks.Kept kept clock = omega arith
from_kept clocks.Running kept clock = omega arith

adopted_below : (t : Clocks) (kept clock most : ℕ) → kept < most → clock < most → adopted_time t kept clock < most
adopted_below clocks.Kept kept clock most h k = h
adopted_below clocks.Running kept clock most h k = omega (arith, h, k)

module _ (x : Block) (t : Clocks) (clock time : ℕ) (r : IsResting x) (is : time ≡ adopted_time t (time_at clock x.whereabouts) clock) where
  pub goes_forward : kept_in x ≤ time
  goes_forward =
      let same = kept_time clock x r in
      let more = from_kept t (time_at clock x.whereabouts) clock in
      omega (arith, same, more, is)

  pub time_below : kept_in x < 2 ^ 63 → clock < 2 ^ 63 → time < 2 ^ 63
  time_below low h =
      let same = kept_time clock x r in
      let kept : time_at clock x.whereabouts < 2 ^ 63 = omega (arith, same, low) in
      let below = adopted_below t (time_at clock x.whereabouts) clock (2 ^ 63) kept h in
      omega (arith, below, is)

-- the time at which a block is adopted, from what was read
pub time_is : (time kept clock : ℕ) (t : Clocks) (k : Core) (x : Block) → time ≡ adopted_time t kept clock → t ≡ k.settings.clocks → kept ≡ time_at clock x.whereabouts → clock ≡ k.clock → time ≡ adopted_time k.settings.clocks (time_at k.clock x.whereabouts) k.clock
time_is time kept clock t k x e f g h =
    e
    ∙ ap (λ u. adopted_time u kept clock) f
    ∙ ap (λ n. adopted_time k.settings.clocks n clock) g
    ∙ ap (λ n. adopted_time k.settings.clocks (time_at n x.whereabouts) n) h
