-- What a slice that has begun leaves as it was.
use Rattle.std.proofs.Common.{◌≡◌, ℕ, Option, Some, None, refl, ap, ◌∙◌}
use Rattle.dc_base.specs.Ahead as plain
use Rattle.dc_base.specs.ControlBlocks.{ControlBlock}
use Rattle.dc_kernel.specs.declared.drivers.Begun.{Begun}
use Rattle.dc_kernel.specs.Begins.{ahead_in, begun_control, fired, picked, IsBegun}
use Rattle.dc_kernel.specs.Running.{Running, time_in}
use Rattle.dc_kernel.proofs.FiredParts.{fired_alike}

dues_of : (x : ControlBlock) (o : Option ℕ) (a : Option plain.Ahead) → (begun_control x o a).dues ≡ x.dues
dues_of x None a = refl
dues_of x (Some d) None = refl
dues_of x (Some d) (Some a) = refl

next_of : (x : ControlBlock) (o : Option ℕ) (a : Option plain.Ahead) → (begun_control x o a).parts.next_timer ≡ x.parts.next_timer
next_of x None a = refl
next_of x (Some d) None = refl
next_of x (Some d) (Some a) = refl

module _ (q now : ℕ) (before between : Running) (b : Begun) (h : IsBegun q now before between b) where
  pub same_dues : between.control.dues ≡ before.control.dues
  same_dues = ap (λ (r : Running). r.control.dues) h.block ∙ (dues_of (fired now before).control (picked now before) (ahead_in q now before) ∙ (fired_alike (time_in now before) before.control).dues)

  pub same_next : between.control.parts.next_timer ≡ before.control.parts.next_timer
  same_next = ap (λ (r : Running). r.control.parts.next_timer) h.block ∙ (next_of (fired now before).control (picked now before) (ahead_in q now before) ∙ (fired_alike (time_in now before) before.control).next)
