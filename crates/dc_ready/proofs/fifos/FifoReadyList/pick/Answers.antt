use Rattle.std.proofs.Common.{◌≡◌, get_or, ap, subst, ◌∙◌}
use Rattle.std.specs.Prelude.{Some, None}
use Rattle.dc_base.specs.declared.kernels.Version.TheVariants.{Rr}
use Rattle.dc_base.specs.Policies.{pick}
use Rattle.dc_ready.specs.Entries.{dispatchers, entries_of}
use Rattle.dc_ready.proofs.Fronts.{front-none, front-some}
use Rattle.dc_ready.proofs.fifos.FifoReadyList.pick.Goals as goal

pub returns-in-empty-clause-which : goal.returns-in-empty-clause-which
returns-in-empty-clause-which c = λ dues are. subst (λ es. None ≡ pick Rr dues (dispatchers es)) (ap entries_of c.as_slice.ensures.value ∙ c.self.view_is) (front-none dues c.as_slice.result.now c.in-empty.len_below)

pub returns-in-len1-up-clause-which : goal.returns-in-len1-up-clause-which
returns-in-len1-up-clause-which c = λ dues are. subst (λ es. Some (get_or c.as_slice.result.now 0 (record { 0 = 0 }, 0)).0.0 ≡ pick Rr dues (dispatchers es)) (ap entries_of c.as_slice.ensures.value ∙ c.self.view_is) (front-some dues c.as_slice.result.now (record { 0 = 0 }, 0) c.in-len1-up.len_at_least)
