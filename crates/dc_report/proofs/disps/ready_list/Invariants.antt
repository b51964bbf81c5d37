use Rattle.std.proofs.Common.{◌≡◌, ℕ, take, map}
use Rattle.dc_base.specs.declared.numbers.DispNo.{DispNo}
use Rattle.dc_report.proofs.disps.ready_list.Given as goal

-- the dispatchers of the entries so far
abbrev pub invariant-loop-entry : goal.invariant-loop-entry
invariant-loop-entry g l = l.list.items ≡ map (λ (e : DispNo × ℕ). e.0) (take l.entry-index l.entry-items)
