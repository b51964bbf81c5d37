-- The ready list of a block agrees with its dispatchers.
use Rattle.std.specs.Prelude.{◌≡◌, ℕ, List, Some, map, slice_get}
use Rattle.dc_base.specs.declared.dispatchers.DispState.TheVariants as disp
use Rattle.dc_base.specs.Words.{Each}
use Rattle.dc_isa.specs.declared.dispatchers.Dispatcher.{Dispatcher}
use Rattle.dc_ready.specs.Entries.{AreDues, IsReadyList}
use Rattle.dc_kcb.specs.Controls.{state_of, due_of}

-- each listed dispatcher stands once, with its due, and is ready
pub record AreQueued (disps : List Dispatcher) (ready : List (ℕ × ℕ)) : Type 0 where
  pub once : IsReadyList ready
  pub dues : AreDues (map due_of disps) ready
  pub states : Each ready (λ i (e : ℕ × ℕ). slice_get (map state_of disps) e.0 ≡ Some disp.Ready)
