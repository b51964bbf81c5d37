-- A block of which a slice has begun.
use Rattle.std.proofs.Common.{◌≡◌, ℕ, ◌<◌, ◌^◌, refl, sym, ap, ◌∙◌, subst}
use Rattle.std.specs.Prelude.{◌-◌}
use Rattle.dc_base.specs.ControlBlocks.{ControlBlock}
use Rattle.dc_base.specs.States.{Core, Block, Whereabouts, rest, on, with_control}
use Rattle.dc_base.specs.Words.{Each}
use Rattle.dc_kernel.specs.declared.drivers.Begun.{Begun}
use Rattle.dc_kernel.proofs.Between.{same_dues, same_next}
use Rattle.dc_objects.specs.Blocks.{running_of, IsTimed, CanSlice}
use Rattle.dc_bodies.specs.Sliced.{HasBegun}

-- a block as its kernel has it has the same control block
control_by : (x : Block) (w : Whereabouts) → (running_of (record x { whereabouts = w })).control ≡ x.control
control_by x (rest kept) = refl
control_by x (on c offset v) = refl

timed_by : (clock : ℕ) (y : ControlBlock) (x : Block) (w : Whereabouts) → IsTimed clock (record x { whereabouts = w }) → IsTimed clock (with_control y (record x { whereabouts = w }))
timed_by clock y x (rest kept) h = absurd h.held
timed_by clock y x (on c offset v) h = record { held = tt; timely = record { clock = h.timely.clock; from_zero = h.timely.from_zero; time = h.timely.time } }

module _ (c : ℕ) (k : Core) (x x' : Block) (b : Begun) (h : HasBegun c k x x' b) where
  -- it is still on its core, within bounds
  pub still_timed : IsTimed k.clock x'
  still_timed = subst (IsTimed k.clock) (sym h.block) (timed_by k.clock x'.control x x.whereabouts h.hand.timed)

  pub still_bounds : CanSlice x'
  still_bounds =
      let dues : x'.control.dues ≡ x.control.dues = sym (ap (λ (y : ControlBlock). y.dues) (control_by x' x'.whereabouts)) ∙ (same_dues k.settings.quantum k.clock (running_of x) (running_of x') b h.begun ∙ ap (λ (y : ControlBlock). y.dues) (control_by x x.whereabouts)) in
      let next : x'.control.parts.next_timer ≡ x.control.parts.next_timer = sym (ap (λ (y : ControlBlock). y.parts.next_timer) (control_by x' x'.whereabouts)) ∙ (same_next k.settings.quantum k.clock (running_of x) (running_of x') b h.begun ∙ ap (λ (y : ControlBlock). y.parts.next_timer) (control_by x x.whereabouts)) in
      record {
        timers = subst (λ n. n < 2 ^ 32 - 1) (sym next) h.hand.bounds.timers;
        dues = subst (λ ds. Each ds (λ d due. due < 2 ^ 63)) (sym dues) h.hand.bounds.dues;
      }
