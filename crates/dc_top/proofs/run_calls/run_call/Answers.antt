use Rattle.dc_top.specs.Calls.{Call}
use Rattle.dc_top.proofs.Answers.{halt_not_done}
use Rattle.dc_top.proofs.RunHeadlines.{ran_tells}
use Rattle.dc_top.proofs.Running.{ran_answers, stop_answers}
use Rattle.dc_top.proofs.run_calls.run_call.Goals as goal

pub returns-in-Ok-clause-answers : goal.returns-in-Ok-clause-answers
returns-in-Ok-clause-answers g c =
    let call : Call = record {
      shelf_faults = g.H.Shelf.faults c.args.shelf.now;
      shelf_faults_after = g.H.Shelf.faults c.load_inputs.new.shelf;
      sink_faults = g.S.Sink.faults c.args.sink.now;
      sink_faults_after = g.S.Sink.faults c.run_inputs.new.sink;
      told = g.S.Sink.told c.args.sink.now;
      told_after = g.S.Sink.told c.run_inputs.new.sink;
    }
    in
    ran_answers c.args.image.now c.args.script.now (g.H.Shelf.told c.args.shelf.now) call c.in-Ok.machine c.in-Ok.lines c.run_inputs.result c.in-Ok.ensures.ready
    c.run_inputs.ensures.ran

pub returns-in-Err-clause-answers : goal.returns-in-Err-clause-answers
returns-in-Err-clause-answers g c =
    let call : Call = record {
      shelf_faults = g.H.Shelf.faults c.args.shelf.now;
      shelf_faults_after = g.H.Shelf.faults c.load_inputs.new.shelf;
      sink_faults = g.S.Sink.faults c.args.sink.now;
      sink_faults_after = g.S.Sink.faults c.tell.new.sink;
      told = g.S.Sink.told c.args.sink.now;
      told_after = g.S.Sink.told c.tell.new.sink;
    }
    in stop_answers c.args.image.now c.args.script.now (g.H.Shelf.told c.args.shelf.now) call c.in-Err.halt c.tell.result c.in-Err.ensures.halts c.tell.ensures.told

pub returns-in-Ok-clause-headline : goal.returns-in-Ok-clause-headline
returns-in-Ok-clause-headline g c =
    ran_tells c.every_run_is_reported.ensures.reported c.entries_are_in_range.ensures.lines c.entries_are_in_range.ensures.ranges c.what_is_spelled_is_read.ensures c.tickets_are_in_order.ensures
    c.args.image.now c.args.script.now (g.H.Shelf.told c.args.shelf.now) (g.S.Sink.told c.args.sink.now) (g.S.Sink.told c.run_inputs.new.sink) (g.S.Sink.faults c.args.sink.now)
    (g.S.Sink.faults c.run_inputs.new.sink) c.in-Ok.machine c.in-Ok.lines c.run_inputs.result c.in-Ok.ensures.ready c.in-Ok.ensures.valid_image c.in-Ok.ensures.valid_script
    c.run_inputs.ensures.ran

pub returns-in-Err-clause-headline : goal.returns-in-Err-clause-headline
returns-in-Err-clause-headline g c = λ is_0.
    absurd (halt_not_done c.args.image.now c.args.script.now c.args.script.now (g.H.Shelf.told c.args.shelf.now) (g.H.Shelf.faults c.args.shelf.now) (g.H.Shelf.faults c.load_inputs.new.shelf)
    (g.S.Sink.faults c.args.sink.now) (g.S.Sink.faults c.tell.new.sink) (g.S.Sink.told c.args.sink.now) (g.S.Sink.told c.tell.new.sink) c.in-Err.halt c.tell.result c.tell.ensures.told is_0)
