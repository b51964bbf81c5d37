use Rattle.dc_play.proofs.Adding.{writes_behind}
use Rattle.dc_top.proofs.bad_inputs.put_both.Goals as goal

pub returns-clause-writes : goal.returns-clause-writes
returns-clause-writes g c =
    writes_behind (g.S.Sink.told c.args.sink.now) (g.S.Sink.told c.put_text.new.sink) (g.S.Sink.told c.put_text-2.new.sink) c.args.first.now c.args.second.now c.put_text-2.result c.in_ok-put_text.ensures.writes
    c.put_text-2.ensures.writes
