-- How many signals hold a latch of a line.
use Rattle.std.proofs.Common.{◌≡◌, ℕ, zero, suc, ◌+◌, ◌≤◌, List, [], ◌∷◌, Bool, true, false, Option, Some, None, refl, ap, arith, length, get_or}
use Rattle.std.specs.Prelude.{slice_get, slice_set, if◌then◌else◌, count_by, sum_by, ⊤}
use Rattle.std.proofs.lemmas.List.Sums.{sum_by-cons, sum_by-set}
use Rattle.std.proofs.lemmas.Option.{get_or_from_slice_get, slice_get_within}
use Rattle.dc_base.specs.declared.interrupts.Latch.{Latch}
use Rattle.dc_base.specs.declared.interrupts.Source.TheVariants as source
use Rattle.dc_base.specs.declared.interrupts.Timer.{Timer}
use Rattle.dc_base.specs.ControlBlocks.{ControlBlock}
use Rattle.dc_base.specs.Effects.{Context}
use Rattle.dc_base.specs.Firing.{wake, latch_in}
use Rattle.dc_base.specs.Lines.{Wire, line_latch, wire_after_intake}
use Rattle.dc_base.specs.Ports.{signal_after, signals_after, latch_at, how_latched}
use Rattle.dc_base.specs.Report.{is_latch_of, latches_of}
use Rattle.dc_base.specs.States.{Block}
use Rattle.dc_base.specs.Words.{change}
use Rattle.dc_block_sound.proofs.Elements.{other_is}
use Rattle.dc_sound.proofs.TimerWalk.{TimerLaws}

-- the latches of a line among signals
abbrev pub held : ℕ → List (Option Latch) → ℕ
held l os = count_by (is_latch_of l) os

abbrev pub held_by : ℕ → Block → ℕ
held_by l x = held l x.control.parts.signals

abbrev one_if : Bool → ℕ
one_if t = if t then 1 else 0

held-cons : (l : ℕ) (o : Option Latch) (os : List (Option Latch)) → held l (o ∷ os) ≡ one_if (is_latch_of l o) + held l os
held-cons l o os = sum_by-cons (λ o. one_if (is_latch_of l o)) o os

set_none : (l i : ℕ) (os : List (Option Latch)) → held l (slice_set os i None) ≤ held l os
set_none l i [] = omega arith
set_none l zero (o ∷ os) = let a = held-cons l None os in let b = held-cons l o os in omega (arith, a, b)
set_none l (suc i) (o ∷ os) = let a = held-cons l o (slice_set os i None) in let b = held-cons l o os in let c = set_none l i os in omega (arith, a, b, c)

-- a latch comes to a signal: one more at most, where it is of the line and the signal was empty
abbrev gained : ℕ → Latch → Option Latch → ℕ
gained l k None = one_if (is_latch_of l (Some k))
gained l k (Some j) = 0

gains_here : (l : ℕ) (k : Latch) (o : Option Latch) (os : List (Option Latch)) → held l (signal_after k o ∷ os) ≤ held l (o ∷ os) + gained l k o
gains_here l k None os = let a = held-cons l (Some k) os in let b = held-cons l None os in omega (arith, a, b)
gains_here l k (Some j) os = omega arith

gains : (l i : ℕ) (k : Latch) (os : List (Option Latch)) → held l (change (signal_after k) i os) ≤ held l os + gained l k (latch_at os i)
gains l i k [] = omega arith
gains l zero k (o ∷ os) = gains_here l k o os
gains l (suc i) k (o ∷ os) = let a = held-cons l o (change (signal_after k) i os) in let b = held-cons l o os in let c = gains l i k os in omega (arith, a, b, c)

no_gain : (l : ℕ) (k : Latch) (o : Option Latch) → is_latch_of l (Some k) ≡ false → gained l k o ≡ 0
no_gain l k None h = ap one_if h
no_gain l k (Some j) h = refl

timer_fires : (l i value : ℕ) (os : List (Option Latch)) → held l (signals_after i (record { source = source.Timer; value = value }) os) ≤ held l os
unfolding signals_after
timer_fires l i value os =
    let a = gains l i (record { source = source.Timer; value = value }) os in
    let b = no_gain l (record { source = source.Timer; value = value }) (latch_at os i) refl in
    omega (arith, a, b)

-- a slice and a firing bring no latch of a line

abbrev pub NoMore : List (Option Latch) → List Timer → ℕ → List (Option Latch) → Type 0
NoMore was ts n os = (l : ℕ) → held l os ≤ held l was

abbrev pub AnyContext : Context → List ℕ → Type 0
AnyContext c memory = ⊤

pub latch_laws : (was : List (Option Latch)) (time : ℕ) → TimerLaws (NoMore was) (NoMore was) AnyContext time
latch_laws was time = record {
  fewer = λ t ts n os h l. let a = timer_fires l t.signal.0 t.value os in let b = h l in omega (arith, a, b);
  weaker = λ ts n os h. h;
  taken = λ ts n os i h l. let a = set_none l i os in let b = h l in omega (arith, a, b);
  goes_on = λ code c new memory changed e h. tt;
  armed = λ c memory b signal value n ts os f h. h;
}

-- an intake brings one at most, and then the line's given number grows

given_by : (l i n : ℕ) (x : ControlBlock) (w : Wire) (o : Option Latch) → latch_at x.parts.signals i ≡ o → held l (latch_in i (line_latch l n) x).parts.signals + w.counts.given ≤ held l x.parts.signals + (wire_after_intake (how_latched o) w).counts.given
unfolding latch_in wake signals_after wire_after_intake
given_by l i n x w None q =
    let a = gains l i (line_latch l n) x.parts.signals in
    let b : gained l (line_latch l n) (latch_at x.parts.signals i) ≡ gained l (line_latch l n) None = ap (gained l (line_latch l n)) q in
    let c = most (is_latch_of l (Some (line_latch l n))) in
    omega (arith, a, b, c)
  where
    most : (t : Bool) → one_if t ≤ 1
    most true = omega arith
    most false = omega arith
given_by l i n x w (Some k) q =
    let a = gains l i (line_latch l n) x.parts.signals in
    let b : gained l (line_latch l n) (latch_at x.parts.signals i) ≡ 0 = ap (gained l (line_latch l n)) q in
    omega (arith, a, b)

pub intake_given : (l i n : ℕ) (x : ControlBlock) (w : Wire) →
    held l (latch_in i (line_latch l n) x).parts.signals + w.counts.given ≤ held l x.parts.signals + (wire_after_intake (how_latched (latch_at x.parts.signals i)) w).counts.given
intake_given l i n x w = given_by l i n x w (latch_at x.parts.signals i) refl

pub intake_other : (l m i n : ℕ) (x : ControlBlock) → (l ≡ m → ⊥) → held m (latch_in i (line_latch l n) x).parts.signals ≤ held m x.parts.signals
unfolding latch_in wake signals_after
intake_other l m i n x h =
    let a = gains m i (line_latch l n) x.parts.signals in
    let b = no_gain m (line_latch l n) (latch_at x.parts.signals i) (other_is l m h) in
    omega (arith, a, b)

-- over all blocks

pub latches-set : (l b : ℕ) (x y : Block) (blocks : List Block) → slice_get blocks b ≡ Some x → latches_of l (slice_set blocks b y) + held_by l x ≡ latches_of l blocks + held_by l y
unfolding latches_of
latches-set l b x y blocks h =
    let f : held_by l (get_or blocks b x) ≡ held_by l x = ap (held_by l) (get_or_from_slice_get blocks b x x h) in
    omega (arith, sum_by-set (held_by l) blocks b y x (slice_get_within blocks b x h))

-- a sum does not grow where no element's part does
pub sums_fall : {A : Type 0} (f : A → ℕ) (xs ys : List A) → length ys ≡ length xs → ((i : ℕ) (y : A) → slice_get ys i ≡ Some y → (x : A) × (slice_get xs i ≡ Some x) × (f y ≤ f x)) → sum_by f ys ≤ sum_by f xs
sums_fall f xs [] n h = omega arith
sums_fall f [] (y ∷ ys) n h = absurd (omega (arith, n))
sums_fall f (x ∷ xs) (y ∷ ys) n h =
    let a = sum_by-cons f x xs in let b = sum_by-cons f y ys in
    let w = h 0 y refl in
    let same : f w.0 ≡ f x = let e = w.1 in cc in
    let one = w.2 in
    let more = sums_fall f xs ys (omega (arith, n)) (λ i z q. h (suc i) z q) in
    omega (arith, a, b, same, one, more)
