use Rattle.std.proofs.Common.{ap, sym}
use Rattle.dc_base.specs.Serving.{need}
use Rattle.dc_calls.proofs.calls.needs.crecv_need.Goals as goal

pub returns-in-Ok : goal.returns-in-Ok
unfolding need
returns-in-Ok c = λ x p. ap need (sym (c.in-Ok.ensures x p))

pub returns-in-Err : goal.returns-in-Err
unfolding need
returns-in-Err c = λ x p. ap need (sym (c.in-Err.ensures x p))
