-- Every due stays within its bound.
use Rattle.std.proofs.Common.{◌≡◌, ℕ, zero, suc, ◌+◌, ◌*◌, ◌≤◌, ◌<◌, ◌^◌, List, [], ◌∷◌, Option, refl, sym, subst, arith, get_or}
use Rattle.std.specs.Prelude.{⊤, slice_index}
use Rattle.dc_base.specs.declared.entries.Entry.{Entry}
use Rattle.dc_base.specs.declared.interrupts.Latch.{Latch}
use Rattle.dc_base.specs.declared.interrupts.Timer.{Timer}
use Rattle.dc_base.specs.declared.kernels.Version.{Version}
use Rattle.dc_base.specs.declared.kernels.Version.TheVariants as version
use Rattle.dc_base.specs.Bounded.{DuesWithin, budget}
use Rattle.dc_base.specs.Changes.{Change, apply}
use Rattle.dc_base.specs.ControlBlocks.{ControlBlock}
use Rattle.dc_base.specs.Effects.{Context}
use Rattle.dc_base.specs.Firing.{wake, latch_in}
use Rattle.dc_base.specs.KeptByBlocks.{AllDispatchers}
use Rattle.dc_base.specs.Lines.{line_latch}
use Rattle.dc_base.specs.Slices.{due_after}
use Rattle.dc_base.specs.States.{State, time_on}
use Rattle.dc_base.specs.Words.{Each, change}
use Rattle.dc_sound.proofs.EntryKinds.{IsSlice, IsSliceNone, got_by, sliced_of, after_timers, Kind}
use Rattle.dc_sound.proofs.Budgets.{budget_grows, slice_spends}
use Rattle.dc_sound.proofs.ControlRules.{ControlLaws, controls_kept}
use Rattle.dc_sound.proofs.TimerWalk.{TimerLaws, ended, end_is, slice_has, fired_has}

abbrev Any : List Timer → ℕ → List (Option Latch) → Type 0
Any ts n os = ⊤

abbrev AnyContext : Context → List ℕ → Type 0
AnyContext c memory = ⊤

no_laws : (time : ℕ) → TimerLaws Any Any AnyContext time
no_laws time = record { fewer = λ t ts n os h. tt; weaker = λ ts n os h. tt; taken = λ ts n os i h. tt; goes_on = λ code c new memory changed e h. tt; armed = λ c memory b signal value n ts os f h. tt }

abbrev Below : ℕ → List ℕ → Type 0
Below most dues = Each dues (λ d due. due < most)

grown : (dues : List ℕ) (d most more : ℕ) → Below most dues → Below (most + more) (change (λ due. due + more) d dues)
grown [] d most more h i due e = absurd cc
grown (x ∷ xs) zero most more h zero due e = let same : x + more ≡ due = cc in let a = h 0 x refl in omega (arith, same, a)
grown (x ∷ xs) zero most more h (suc i) due e = let a = h (suc i) due e in omega (arith, a)
grown (x ∷ xs) (suc d) most more h zero due e = let a = h 0 due e in omega (arith, a)
grown (x ∷ xs) (suc d) most more h (suc i) due e = grown xs d most more (λ j n q. h (suc j) n q) i due e

index_most : (ns : List ℕ) (d most : ℕ) → Each ns (λ i n. n ≤ most) → get_or ns d 0 ≤ most
index_most [] d most h = omega arith
index_most (n ∷ ns) zero most h = h 0 n refl
index_most (n ∷ ns) (suc d) most h = index_most ns d most (λ i m e. h (suc i) m e)

more_below : (dues : List ℕ) (most more : ℕ) → most ≤ more → Below most dues → Below more dues
more_below dues most more k h i due e = let a = h i due e in omega (arith, a, k)

grown_by : (v : Version) (d most : ℕ) (x : ControlBlock) → Each x.periods (λ i n. n ≤ 65535) → Below most x.dues → Below (most + 2 ^ 16) (due_after v d x).dues
grown_by version.Rr d most x p h = more_below x.dues most (most + 2 ^ 16) (omega arith) h
grown_by version.Edf d most x p h =
    let n = index_most x.periods d 65535 p in
    more_below _ (most + slice_index x.periods d) (most + 2 ^ 16) (omega (arith, n)) (grown x.dues d most (slice_index x.periods d) h)

latched_dues : (signal l n : ℕ) (x : ControlBlock) → (latch_in signal (line_latch l n) x).dues ≡ x.dues
unfolding latch_in wake
latched_dues signal l n x = refl

module _ (s : State) (chs : List Change) (e : Entry) (kind : Kind s chs e) (p : DuesWithin s) (dispatchers : AllDispatchers s) where
  abbrev Within : ℕ → ControlBlock → Type 0
  Within b x = Below (2 ^ 62 + budget (apply s chs) * 2 ^ 16) x.dues

  sliced : (i : IsSlice s chs e) → Within i.b (sliced_of s chs e i).control
  sliced i =
      let time = time_on i.k.clock i.offset in
      let out = got_by s chs e i in
      let most = 2 ^ 62 + budget s * 2 ^ 16 in
      let y = ended i.c i.b i.d i.h out in
      let h = slice_has Any Any AnyContext time (no_laws time) i.k.settings.quantum i.c i.b i.x.control i.d i.h out tt (λ c q. tt) i.halfway_at in
      let periods : Each y.periods (λ j n. n ≤ 65535) = subst (λ ns. Each ns (λ j n. n ≤ 65535)) (sym h.periods_are) (λ j n q. ((dispatchers i.b i.x i.turn.block_at).periods j n q).1) in
      let dues : Below most y.dues = subst (Below most) (sym h.dues_are) (p i.b i.x i.turn.block_at) in
      let one = slice_spends s chs e i in
      more_below _ (most + 2 ^ 16) _ (omega (arith, one))
      (subst (λ (x : ControlBlock). Below (most + 2 ^ 16) x.dues) (sym (end_is i.c i.b i.v i.d i.h out)) (grown_by i.v i.d most y periods dues))

  fired : (i : IsSliceNone s chs e) → Within i.b i.x.control → Within i.b (after_timers i.k.clock i.offset i.x.control)
  fired i h =
      let time = time_on i.k.clock i.offset in
      subst (Below (2 ^ 62 + budget (apply s chs) * 2 ^ 16)) (sym (fired_has Any Any AnyContext time (no_laws time) i.x.control tt).dues_are) h

  laws : ControlLaws Within s chs e
  laws = record {
    slice = λ i h. sliced i;
    slice_none = fired;
    wake = λ i h. h;
    intake = λ i h. subst (Below (2 ^ 62 + budget (apply s chs) * 2 ^ 16)) (sym (latched_dues i.to.1 i.l i.n i.x.control)) h;
  }

  -- each entry keeps this part; a slice uses that periods are at most 65535
  pub dues_kept : DuesWithin (apply s chs)
  dues_kept = controls_kept Within s chs e laws (λ b x q. more_below x.control.dues _ _ (let g = budget_grows s chs e kind in omega (arith, g)) (p b x q)) kind
