-- The numbers of timers stay within their bound.
use Rattle.std.proofs.Common.{◌≡◌, ℕ, ◌+◌, ◌≤◌, ◌^◌, List, Option, refl, sym, ap, ◌∙◌, subst, arith}
use Rattle.std.specs.Prelude.{⊤}
use Rattle.dc_base.specs.declared.entries.Entry.{Entry}
use Rattle.dc_base.specs.declared.interrupts.Latch.{Latch}
use Rattle.dc_base.specs.declared.interrupts.Timer.{Timer}
use Rattle.dc_base.specs.Bounded.{NumbersWithin, budget}
use Rattle.dc_base.specs.Changes.{Change, apply}
use Rattle.dc_base.specs.ControlBlocks.{ControlBlock}
use Rattle.dc_base.specs.Effects.{Context}
use Rattle.dc_base.specs.Firing.{wake, latch_in}
use Rattle.dc_base.specs.Lines.{line_latch}
use Rattle.dc_base.specs.Slices.{due_after}
use Rattle.dc_base.specs.States.{State, time_on}
use Rattle.dc_sound.proofs.EntryKinds.{IsSlice, IsSliceNone, got_by, sliced_of, after_timers, Kind}
use Rattle.dc_sound.proofs.Budgets.{budget_grows, slice_spends}
use Rattle.dc_sound.proofs.ControlRules.{ControlLaws, controls_kept}
use Rattle.dc_sound.proofs.TimerWalk.{TimerLaws, ended, end_is, slice_has, fired_has}
use Rattle.dc_base.specs.declared.kernels.Version.{Version}
use Rattle.dc_base.specs.declared.kernels.Version.TheVariants as version

abbrev AtMost : ℕ → List Timer → ℕ → List (Option Latch) → Type 0
AtMost most ts n os = n ≤ most

abbrev Any : Context → List ℕ → Type 0
Any c memory = ⊤

number_laws : (most time : ℕ) → TimerLaws (AtMost most) (AtMost (most + 1)) Any time
number_laws most time = record {
  fewer = λ t ts n os h. h;
  weaker = λ ts n os h. omega (arith, h);
  taken = λ ts n os i h. omega (arith, h);
  goes_on = λ code c new memory changed e h. tt;
  armed = λ c memory b signal value n ts os f h. omega (arith, h);
}

due_number : (v : Version) (d : ℕ) (x : ControlBlock) → (due_after v d x).parts.next_timer ≡ x.parts.next_timer
due_number version.Rr d x = refl
due_number version.Edf d x = refl

latched_number : (signal l n : ℕ) (x : ControlBlock) → (latch_in signal (line_latch l n) x).parts.next_timer ≡ x.parts.next_timer
unfolding latch_in wake
latched_number signal l n x = refl

module _ (s : State) (chs : List Change) (e : Entry) (kind : Kind s chs e) (p : NumbersWithin s) where
  abbrev Within : ℕ → ControlBlock → Type 0
  Within b x = x.parts.next_timer ≤ 2 ^ 31 + budget (apply s chs)

  sliced : (i : IsSlice s chs e) → Within i.b (sliced_of s chs e i).control
  sliced i =
      let time = time_on i.k.clock i.offset in
      let out = got_by s chs e i in
      let most = 2 ^ 31 + budget s in
      let h = slice_has (AtMost most) (AtMost (most + 1)) Any time (number_laws most time) i.k.settings.quantum i.c i.b i.x.control i.d i.h out (p i.b i.x i.turn.block_at) (λ c q. tt) i.halfway_at in
      let same = ap (λ (x : ControlBlock). x.parts.next_timer) (end_is i.c i.b i.v i.d i.h out) ∙ due_number i.v i.d (ended i.c i.b i.d i.h out) in
      let one = slice_spends s chs e i in
      let n = h.timers in
      omega (arith, same, one, n)

  fired : (i : IsSliceNone s chs e) → Within i.b i.x.control → Within i.b (after_timers i.k.clock i.offset i.x.control)
  fired i h =
      let time = time_on i.k.clock i.offset in
      let most = 2 ^ 31 + budget (apply s chs) in
      (fired_has (AtMost most) (AtMost (most + 1)) Any time (number_laws most time) i.x.control h).timers

  laws : ControlLaws Within s chs e
  laws = record {
    slice = λ i h. sliced i;
    slice_none = fired;
    wake = λ i h. h;
    intake = λ i h. subst (λ n. n ≤ 2 ^ 31 + budget (apply s chs)) (sym (latched_number i.to.1 i.l i.n i.x.control)) h;
  }

  -- each entry keeps this part, and uses no other
  pub numbers_kept : NumbersWithin (apply s chs)
  numbers_kept = controls_kept Within s chs e laws (λ b x q. let h = p b x q in let g = budget_grows s chs e kind in omega (arith, h, g)) kind
