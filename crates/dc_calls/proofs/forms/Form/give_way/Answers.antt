use Rattle.dc_calls.proofs.CallServed.{serves_made}
use Rattle.dc_calls.proofs.CallPrints.{yields}
use Rattle.dc_calls.proofs.forms.Form.give_way.Goals as goal

pub returns : goal.returns
returns g c = record { served = λ k n time out x there. serves_made _ _ _ _ _ _ _ _ _ (c.go_on.ensures x there) (yields k n time _ x _ out) }
