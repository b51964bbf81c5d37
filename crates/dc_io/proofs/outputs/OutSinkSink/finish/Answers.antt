use Rattle.dc_io.specs.Outputs.{with_unwritten}
use Rattle.dc_io.proofs.Unwritten.{loses_unwritten, stays_at_err}
use Rattle.dc_io.proofs.outputs.OutSinkSink.finish.Goals as goal

pub returns-in-Ok-clause-lost : goal.returns-in-Ok-clause-lost
returns-in-Ok-clause-lost g c =
    let before = with_unwritten (g.W.Write.contents c.args.self.now.out) c.args.self.now.unwritten in
    let mid = with_unwritten (g.W.Write.contents c.write_out.new.self.out) c.write_out.new.self.unwritten in
    let after = with_unwritten (g.W.Write.contents c.flush.new.self.out) c.flush.new.self.unwritten in
    stays_at_err c.flush.result before mid after c.in-Ok.ensures.kept c.flush.ensures.kept

pub returns-in-Err-clause-lost : goal.returns-in-Err-clause-lost
returns-in-Err-clause-lost g c =
    let before = with_unwritten (g.W.Write.contents c.args.self.now.out) c.args.self.now.unwritten in
    loses_unwritten g.W.Write.contents before c.write_out.new.self c.let_go.new.self c.in-Err.ensures.kept c.let_go.ensures
