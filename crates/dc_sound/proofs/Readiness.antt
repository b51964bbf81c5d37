-- Each ready dispatcher of each block stands in its ready list once, and no other: each entry keeps this.
use Rattle.std.proofs.Common.{ℕ, List}
use Rattle.std.specs.Prelude.{ℤ}
use Rattle.dc_base.specs.declared.entries.Entry.{Entry}
use Rattle.dc_base.specs.Changes.{Change, apply}
use Rattle.dc_base.specs.ControlBlocks.{ControlBlock}
use Rattle.dc_base.specs.Firing.{latch_in}
use Rattle.dc_base.specs.KeptByBlocks.{AllReady, HasReady}
use Rattle.dc_base.specs.Lines.{line_latch}
use Rattle.dc_base.specs.Slices.{without_ready}
use Rattle.dc_base.specs.States.{State, time_on}
use Rattle.dc_block_sound.proofs.Ready.{latch_owes, fire_owes, ready_owes, owes_ready, picked_in, without_owes, half_ready, end_ready, again_ready}
use Rattle.dc_sound.proofs.EntryKinds.{got_by, after_timers, sliced_of, Kind, IsSlice}
use Rattle.dc_sound.proofs.ControlRules.{ControlLaws, controls_kept}

module _ (s : State) (chs : List Change) (e : Entry) where
  fired_ready : (clock : ℕ) (offset : ℤ) (x : ControlBlock) → HasReady x → HasReady (after_timers clock offset x)
  fired_ready clock offset x h = owes_ready (after_timers clock offset x) (fire_owes (λ d. 0) (time_on clock offset) x (ready_owes x h))

  sliced : (i : IsSlice s chs e) → HasReady i.x.control → HasReady (sliced_of s chs e i).control
  sliced i h =
      let fired = fired_ready i.k.clock i.offset i.x.control h in
      let x = after_timers i.k.clock i.offset i.x.control in
      end_ready i.c i.b i.v i.d i.h (got_by s chs e i) (half_ready i.k.settings.quantum (time_on i.k.clock i.offset) (without_ready i.d x) i.d i.h (without_owes x i.d fired (picked_in i.v x.dues x.ready i.d i.picked)) i.halfway_at)

  laws : ControlLaws (λ b x. HasReady x) s chs e
  laws = record {
    slice = sliced;
    slice_none = λ i h. fired_ready i.k.clock i.offset i.x.control h;
    wake = λ i h. again_ready i.x.control i.d i.state i.waits i.not_ready h;
    intake = λ i h. owes_ready (latch_in i.to.1 (line_latch i.l i.n) i.x.control) (latch_owes (λ d. 0) i.to.1 (line_latch i.l i.n) i.x.control (ready_owes i.x.control h));
  }

  -- each entry keeps this part, and uses no other
  pub readiness_kept : AllReady s → Kind s chs e → AllReady (apply s chs)
  readiness_kept p k = controls_kept (λ b x. HasReady x) s chs e laws p k
