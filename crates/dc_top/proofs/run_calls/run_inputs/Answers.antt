use Rattle.std.proofs.Common.{ℕ, subst, sym}
use Rattle.dc_top.specs.Written.{RunsAs}
use Rattle.dc_top.proofs.Running.{runs_as}
use Rattle.dc_top.proofs.run_calls.run_inputs.Goals as goal

pub returns-clause-ran : goal.returns-clause-ran
returns-clause-ran g c =
    let f = g.S.Sink.faults c.args.sink.now in
    let h = g.S.Sink.faults c.run-ran.new.sink in
    let a = g.S.Sink.told c.args.sink.now in
    let b = g.S.Sink.told c.run-ran.new.sink in
    subst (λ (n : ℕ). RunsAs c.args.image.now c.args.script.now f h a b n) (sym c.status_of_play.ensures)
    (runs_as c.args.image.now c.args.script.now f h a b c.run-ran.result c.run-ran.ensures.runs)
