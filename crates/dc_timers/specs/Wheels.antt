-- Wheels: 64 buckets side by side, by deadline modulo 64.
use Rattle.std.specs.Prelude.{◌≡◌, ℕ, ◌+◌, ◌%◌, ◌<◌, ◌≤◌, List, Option, length, slice_index}
use Rattle.std.specs.Option.{option_map}
use Rattle.dc_base.specs.declared.interrupts.Timer.{Timer}
use Rattle.dc_base.specs.Words.{Each}
use Rattle.dc_base.specs.Timers.{soonest}
use Rattle.dc_timers.specs.Numbers.{AreNumbered}

abbrev pub bucket_of : ℕ → ℕ
bucket_of deadline = deadline % 64

-- place i is within bucket b, which goes from its own start to the next one
pub record IsWithin (starts : List ℕ) (b i : ℕ) : Type 0 where
  pub from : slice_index starts b ≤ i
  pub to : i < slice_index starts (b + 1)

-- the buckets follow one another, and each timer is within its bucket
pub record AreBuckets (room : List Timer) (starts : List ℕ) : Type 0 where
  pub size : length starts ≡ 65
  pub rise : (b c : ℕ) → b ≤ c → c < 65 → slice_index starts b ≤ slice_index starts c
  pub last : (b : ℕ) → b < 65 → slice_index starts b ≤ length room
  pub placed : Each room (λ i (t : Timer). IsWithin starts (bucket_of t.deadline) i)

-- the numbers differ and are below the next, and the earliest deadline is known
pub record IsWheel (next : ℕ) (earliest : Option ℕ) (room : List Timer) : Type 0 where
  pub numbered : AreNumbered next room
  pub earliest_is : earliest ≡ option_map (λ (t : Timer). t.deadline) (soonest room)
