use Rattle.std.proofs.Common.{ap, sym}
use Rattle.dc_base.specs.Serving.{need}
use Rattle.dc_calls.proofs.calls.needs.claim_need.Goals as goal

pub returns-in-Ok : goal.returns-in-Ok
unfolding need
returns-in-Ok c = λ slot p e. ap need (sym (c.in-Ok.ensures c.args.line.0 slot p e))

pub returns-in-Err : goal.returns-in-Err
unfolding need
returns-in-Err c = λ slot p e. ap need (sym (c.in-Err.ensures c.args.line.0 slot p e))
