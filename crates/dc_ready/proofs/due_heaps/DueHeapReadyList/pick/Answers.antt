use Rattle.std.proofs.Common.{◌≡◌, false, true, List, ℕ, length, nat_lt, subst}
use Rattle.std.specs.Prelude.{None, Some}
use Rattle.dc_base.specs.declared.kernels.Version.TheVariants.{Edf}
use Rattle.dc_base.specs.Policies.{pick}
use Rattle.dc_ready.specs.Entries.{dispatchers, AreDues}
use Rattle.dc_ready.proofs.Picks.{pick-some, pick-none, length-none, length-some}
use Rattle.dc_ready.proofs.due_heaps.DueHeapReadyList.pick.Goals as goal

pub returns-in-None-clause-some : goal.returns-in-None-clause-some
returns-in-None-clause-some c = subst (λ es. false ≡ nat_lt 0 (length es)) c.self.view_is (length-none c.self.inside.nodes c.self.inside.arrivals c.self.invariant c.in-None.is)

pub returns-in-None-clause-which : goal.returns-in-None-clause-which
returns-in-None-clause-which c = λ dues are. subst (λ es. None ≡ pick Edf dues (dispatchers es)) c.self.view_is (pick-none c.self.inside.nodes c.self.inside.arrivals c.self.invariant c.in-None.is dues)

pub returns-in-Some-clause-some : goal.returns-in-Some-clause-some
returns-in-Some-clause-some c = subst (λ es. true ≡ nat_lt 0 (length es)) c.self.view_is (length-some c.self.inside.nodes c.self.inside.arrivals c.self.invariant c.in-Some.first c.in-Some.is)

pub returns-in-Some-clause-which : goal.returns-in-Some-clause-which
returns-in-Some-clause-which c = subst (λ es. (dues : List ℕ) → AreDues dues es → Some c.in-Some.first.number ≡ pick Edf dues (dispatchers es)) c.self.view_is (pick-some c.self.inside.nodes c.self.inside.arrivals c.self.invariant c.in-Some.first c.in-Some.is)
