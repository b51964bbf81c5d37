-- What firing leaves as it was.
use Rattle.std.proofs.Common.{◌≡◌, ℕ, zero, suc, Option, Some, None, refl, ◌∙◌}
use Rattle.dc_base.specs.declared.interrupts.Timer.{Timer}
use Rattle.dc_base.specs.ControlBlocks.{ControlBlock}
use Rattle.dc_base.specs.Firing.{wake, latch_in, after_firing, fire_if, fire_from, fire_all}
use Rattle.dc_base.specs.Timers.{due_timer}

pub record Alike (x y : ControlBlock) : Type 0 where
  pub memory : y.parts.memory ≡ x.parts.memory
  pub code : y.parts.code ≡ x.parts.code
  pub contexts : y.parts.contexts ≡ x.parts.contexts
  pub caps : y.parts.caps ≡ x.parts.caps
  pub next : y.parts.next_timer ≡ x.parts.next_timer
  pub dues : y.dues ≡ x.dues

alike_further : (x y z : ControlBlock) → Alike x y → Alike y z → Alike x z
alike_further x y z p q = record { memory = q.memory ∙ p.memory; code = q.code ∙ p.code; contexts = q.contexts ∙ p.contexts; caps = q.caps ∙ p.caps; next = q.next ∙ p.next; dues = q.dues ∙ p.dues }

fire_alike : (t : Timer) (x : ControlBlock) → Alike x (after_firing t x)
unfolding latch_in wake
fire_alike t x = record { memory = refl; code = refl; contexts = refl; caps = refl; next = refl; dues = refl }

alike : (x : ControlBlock) → Alike x x
alike x = record { memory = refl; code = refl; contexts = refl; caps = refl; next = refl; dues = refl }

fired_by : (time n : ℕ) (x : ControlBlock) → ((y : ControlBlock) → Alike y (fire_from time n y).control) → (o : Option Timer) → Alike x (fire_if (fire_from time n) x o).control
fired_by time n x more None = alike x
fired_by time n x more (Some t) = alike_further x (after_firing t x) _ (fire_alike t x) (more (after_firing t x))

from_alike : (time n : ℕ) (x : ControlBlock) → Alike x (fire_from time n x).control
from_alike time zero x = alike x
from_alike time (suc n) x = fired_by time n x (λ y. from_alike time n y) (due_timer time x.parts.timers)

pub fired_alike : (time : ℕ) (x : ControlBlock) → Alike x (fire_all time x).control
unfolding fire_all
fired_alike time x = from_alike time _ x
