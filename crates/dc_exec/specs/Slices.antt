-- The plain part of a slice.
use Rattle.std.specs.Prelude.{ℕ, ◌<◌, ◌≤◌, List, length}
use Rattle.dc_base.specs.Ahead as spec
use Rattle.dc_isa.specs.declared.dispatchers.Dispatcher.{Dispatcher}
use Rattle.dc_exec.specs.declared.ends.Ran.{Ran}
use Rattle.dc_exec.specs.declared.ends.AheadEnd.{AheadEnd}
use Rattle.dc_exec.specs.declared.ends.AheadEnd.TheVariants as end
use Rattle.dc_exec.specs.Steps.{context_of}
use Rattle.dc_exec.specs.Ends.{end_seen}

-- the plain part that left this dispatcher and this memory
abbrev pub ran_seen : Dispatcher → List ℕ → Ran → spec.Ahead
ran_seen d memory r = record { context = context_of d; memory = memory; ran = r.ran; end = end_seen r.end }

-- a call stands in the code
abbrev pub IsInCode : List ℕ → ℕ → AheadEnd → Type 0
IsInCode code place (end.Call i) = place < length code
IsInCode code place _ = Unit {0}

-- the numbers of the plain part
pub record IsWithin (d d' : Dispatcher) (code : List ℕ) (quantum : ℕ) (r : Ran) : Type 0 where
  pub ran : r.ran ≤ quantum
  pub place : d.place ≤ 65535 → d'.place ≤ 65535
  pub call : IsInCode code d'.place r.end
