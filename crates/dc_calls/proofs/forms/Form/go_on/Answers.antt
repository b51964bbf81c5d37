use Rattle.std.proofs.Common.{arith}
use Rattle.dc_calls.proofs.CallContexts.{place_within, goes_on}
use Rattle.dc_calls.proofs.forms.Form.go_on.Goals as goal

pub overflow_add-disp : goal.overflow_add-disp
overflow_add-disp g c = omega (arith, place_within _ _ _ _ _ c.self.view_is c.disp-disp.ensures c.requires.places)

pub returns : goal.returns
returns g c = λ x there. goes_on _ _ _ _ _ _ _ c.self.view_is c.disp-disp.ensures there (c.go_to.ensures.control _)
