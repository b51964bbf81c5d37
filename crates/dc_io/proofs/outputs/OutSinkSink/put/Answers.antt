use Rattle.dc_io.specs.Outputs.{with_unwritten}
use Rattle.dc_io.proofs.Unwritten.{hold_back_adds, passes_on}
use Rattle.dc_io.proofs.outputs.OutSinkSink.put.Goals as goal

pub returns-in-Ok-clause-taken : goal.returns-in-Ok-clause-taken
returns-in-Ok-clause-taken g c =
    let before = with_unwritten (g.W.Write.contents c.args.self.now.out) c.args.self.now.unwritten in
    passes_on g.W.Write.contents before c.write_out.new.self c.pass_on.new.self c.pass_on.result c.args.piece.now c.in-Ok.ensures.kept c.in-Ok.ensures.written_out c.pass_on.ensures.written_out
    c.pass_on.ensures.taken

pub returns-in-Ok-make_room-clause-taken : goal.returns-in-Ok-make_room-clause-taken
returns-in-Ok-make_room-clause-taken g c =
    let before = with_unwritten (g.W.Write.contents c.args.self.now.out) c.args.self.now.unwritten in
    hold_back_adds g.W.Write.contents before c.make_room.new.self c.hold_back.new.self c.args.piece.now c.in-Ok-make_room.ensures.kept c.hold_back.ensures
