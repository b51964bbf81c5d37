-- What the line of an intake is bound to.
use Rattle.std.proofs.Common.{◌≡◌, ℕ, ◌<◌, Some, subst, length}
use Rattle.std.specs.Prelude.{slice_get, IfSome}
use Rattle.dc_base.specs.Lines.{Wire}
use Rattle.dc_base.specs.Sound.{IsSound}
use Rattle.dc_base.specs.States.{State, Block}
use Rattle.dc_block_sound.proofs.Elements.{same_some}

-- the signal is there to which a line is bound
pub signal_there : (s : State) (l b i : ℕ) (w : Wire) (x : Block) → IsSound s → slice_get s.lines l ≡ Some w → w.bound ≡ Some (b, i) → slice_get s.blocks b ≡ Some x → i < length x.control.parts.signals
signal_there s l b i w x h e f g = let a = subst (λ o. IfSome o (λ (to : ℕ × ℕ). (y : Block) × (slice_get s.blocks to.0 ≡ Some y) × (to.1 < length y.control.parts.signals))) f (h.named.wires l w e).bound in
    subst (λ (y : Block). i < length y.control.parts.signals) (same_some (slice_get s.blocks b) a.0 x (a.1) g) a.2
