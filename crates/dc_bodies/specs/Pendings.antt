-- A pending raise that a core may take in.
use Rattle.std.specs.Prelude.{◌≡◌, ℕ, true, Some}
use Rattle.dc_base.specs.Lines.{Wire}
use Rattle.dc_base.specs.Outcomes.{has}
use Rattle.dc_base.specs.States.{Core}
use Rattle.dc_bodies.specs.declared.intakes.Pending.{Pending}

-- it is the pending raise of the line, which is routed to core c and bound to a signal of a block of the core's share
pub record IsPending (c : ℕ) (k : Core) (w : Wire) (p : Pending) : Type 0 where
  pub bound : w.bound ≡ Some (p.block.0, p.signal.0)
  pub number : w.pending ≡ Some p.number
  pub route : w.route ≡ Some c
  pub here : has k.share p.block.0 ≡ true
