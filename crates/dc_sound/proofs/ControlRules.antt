-- A part that speaks of control blocks alone: what it has to show, and that then each entry keeps it.
use Rattle.std.proofs.Common.{ℕ, List}
use Rattle.dc_base.specs.declared.entries.Entry.{Entry}
use Rattle.dc_base.specs.Changes.{Change, apply}
use Rattle.dc_base.specs.ControlBlocks.{ControlBlock}
use Rattle.dc_base.specs.Firing.{latch_in}
use Rattle.dc_base.specs.Lines.{line_latch}
use Rattle.dc_base.specs.States.{State}
use Rattle.dc_base.specs.Wakes.{ready_again}
use Rattle.dc_base.specs.Words.{Each}
use Rattle.dc_sound.proofs.EntryKinds.{IsSlice, IsSliceNone, IsWake, IsIntake, sliced_of, after_timers, Kind}
use Rattle.dc_sound.proofs.Rules.{Rule, no_rule, Obeys, kept}
use Rattle.dc_sound.proofs.SliceFacts.{no_outside}
use Rattle.dc_sound.proofs.Leaves.{Leaves, fine_kind}

-- P holds of each control block, by the number of its block
abbrev pub controls : (ℕ → ControlBlock → Type 0) → Rule
controls P = record no_rule { block = λ b x. P b x.control }

abbrev pub AllControls : (ℕ → ControlBlock → Type 0) → State → Type 0
AllControls P s = Each s.blocks (λ b x. P b x.control)

module _ (P : ℕ → ControlBlock → Type 0) (s : State) (chs : List Change) (e : Entry) where
  pub record ControlLaws : Type 0 where
    pub slice : (i : IsSlice s chs e) → P i.b i.x.control → P i.b (sliced_of s chs e i).control
    pub slice_none : (i : IsSliceNone s chs e) → P i.b i.x.control → P i.b (after_timers i.k.clock i.offset i.x.control)
    pub wake : (i : IsWake s chs e) → P i.b i.x.control → P i.b (ready_again i.d i.x.control)
    pub intake : (i : IsIntake s chs e) → P i.to.0 i.x.control → P i.to.0 (latch_in i.to.1 (line_latch i.l i.n) i.x.control)

  module _ (laws : ControlLaws) (p : AllControls P s) where
    leaves : Leaves (controls P) s chs e
    leaves = record {
      slice = λ i. (tt, laws.slice i (p i.b i.x i.turn.block_at), no_outside (controls P) s i.c i.b (λ b ws. tt) (λ x r. tt) (λ l w. tt) i.h);
      slice_none = λ i. (tt, laws.slice_none i (p i.b i.x i.turn.block_at));
      idle = λ i. tt;
      wake = λ i. (tt, laws.wake i (p i.b i.x i.turn.block_at));
      intake = λ i. (laws.intake i (p i.to.0 i.x i.block_at), tt);
      start = λ i. (tt, tt);
      stop = λ i. (tt, tt, λ b x q. p b x q);
      replace = λ i. (tt, tt, λ b x q. p b x q);
      adopt = λ i. (tt, tt, p i.b.0 i.x i.block_at);
      release = λ i. (tt, tt, p i.b.0 i.x i.block_at);
      emptied = λ c. tt;
      post = λ i. (tt, tt);
      done = λ i. tt;
      refused = λ i. tt;
      route = λ i. (tt, tt);
      awaited = λ i. tt;
      raise = λ i. (tt, tt);
    }

    obeyed : Obeys (controls P) s
    obeyed = record { cores = λ c k e. tt; blocks = p; channels = λ x r e. tt; lines = λ l w e. tt; mailboxes = λ c m e. tt; consoles = λ b ws e. tt; script = tt }

    pub controls_kept : Kind s chs e → AllControls P (apply s chs)
    controls_kept k = (kept (controls P) chs s (fine_kind (controls P) s chs e leaves obeyed k) obeyed).blocks
