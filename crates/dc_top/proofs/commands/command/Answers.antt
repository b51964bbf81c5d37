use Rattle.std.proofs.Common.{◌⊎◌, Option, subst}
use Rattle.dc_top.specs.Calls.{Call}
use Rattle.dc_top.specs.Requests.{HasStatusOf, IsAnswered, LosesItsEnd, Request, RequestTold, asked}
use Rattle.dc_top.proofs.Commanding.{out_answers, out_headline, out_listed, out_no_memory, out_read_fault, out_write_fault}
use Rattle.dc_top.proofs.commands.command.Goals as goal

pub returns-clause-headline : goal.returns-clause-headline
returns-clause-headline g c = λ is_0.
    let files = g.H.Shelf.told c.args.shelf.now in
    let a = g.S.Sink.told c.args.sink.now in
    let b = g.S.Sink.told c.answer-status.new.sink in
    let d = g.S.Sink.told c.write_out.new.sink in
    let h = g.H.Shelf.faults c.args.shelf.now in
    let k = g.H.Shelf.faults c.answer-status.new.shelf in
    let f = g.S.Sink.faults c.args.sink.now in
    let m = g.S.Sink.faults c.answer-status.new.sink in
    let n = g.S.Sink.faults c.write_out.new.sink in
    subst (λ (r : Option Request). RequestTold files a d r) c.request_of.ensures
    (out_headline files h k f m n a b d (asked c.request_of.result) g.S.Sink.holds_back c.answer-status.result c.write_out.result c.answer-status.ensures.headline c.write_out.ensures.out is_0)

pub returns-clause-answers : goal.returns-clause-answers
returns-clause-answers g c =
    let files = g.H.Shelf.told c.args.shelf.now in
    let a = g.S.Sink.told c.args.sink.now in
    let b = g.S.Sink.told c.answer-status.new.sink in
    let d = g.S.Sink.told c.write_out.new.sink in
    let h = g.H.Shelf.faults c.args.shelf.now in
    let k = g.H.Shelf.faults c.answer-status.new.shelf in
    let f = g.S.Sink.faults c.args.sink.now in
    let m = g.S.Sink.faults c.answer-status.new.sink in
    let n = g.S.Sink.faults c.write_out.new.sink in
    let last : Call = record { shelf_faults = h; shelf_faults_after = k; sink_faults = f; sink_faults_after = n; told = a; told_after = d } in
    subst (λ (r : Option Request). IsAnswered r files last c.write_out.result ⊎ LosesItsEnd r files g.S.Sink.holds_back last c.write_out.result) c.request_of.ensures
    (out_answers files h k f m n a b d (asked c.request_of.result) g.S.Sink.holds_back c.answer-status.result c.write_out.result c.answer-status.ensures.answers c.write_out.ensures.out)

pub returns-clause-read_fault : goal.returns-clause-read_fault
returns-clause-read_fault g c = λ is_5.
    out_read_fault (g.H.Shelf.told c.args.shelf.now) (g.H.Shelf.faults c.args.shelf.now) (g.H.Shelf.faults c.answer-status.new.shelf) (g.S.Sink.faults c.args.sink.now)
    (g.S.Sink.faults c.answer-status.new.sink) (g.S.Sink.faults c.write_out.new.sink) (g.S.Sink.told c.args.sink.now) (g.S.Sink.told c.answer-status.new.sink)
    (g.S.Sink.told c.write_out.new.sink) (asked c.request_of.result) g.S.Sink.holds_back c.answer-status.result c.write_out.result c.answer-status.ensures.read_fault c.write_out.ensures.out is_5

pub returns-clause-write_fault : goal.returns-clause-write_fault
returns-clause-write_fault g c = λ is_6.
    out_write_fault (g.H.Shelf.told c.args.shelf.now) (g.H.Shelf.faults c.args.shelf.now) (g.H.Shelf.faults c.answer-status.new.shelf) (g.S.Sink.faults c.args.sink.now)
    (g.S.Sink.faults c.answer-status.new.sink) (g.S.Sink.faults c.write_out.new.sink) (g.S.Sink.told c.args.sink.now) (g.S.Sink.told c.answer-status.new.sink)
    (g.S.Sink.told c.write_out.new.sink) (asked c.request_of.result) g.S.Sink.holds_back c.answer-status.result c.write_out.result c.answer-status.ensures.grows
    c.answer-status.ensures.write_fault c.write_out.ensures.out is_6

pub returns-clause-no_memory : goal.returns-clause-no_memory
returns-clause-no_memory g c = λ is_7.
    out_no_memory (g.H.Shelf.told c.args.shelf.now) (g.H.Shelf.faults c.args.shelf.now) (g.H.Shelf.faults c.answer-status.new.shelf) (g.S.Sink.faults c.args.sink.now)
    (g.S.Sink.faults c.answer-status.new.sink) (g.S.Sink.faults c.write_out.new.sink) (g.S.Sink.told c.args.sink.now) (g.S.Sink.told c.answer-status.new.sink)
    (g.S.Sink.told c.write_out.new.sink) (asked c.request_of.result) g.S.Sink.holds_back c.answer-status.result c.write_out.result c.answer-status.ensures.no_memory c.write_out.ensures.out is_7

pub returns-clause-listed : goal.returns-clause-listed
returns-clause-listed g c =
    subst (λ (r : Option Request). HasStatusOf r c.write_out.result) c.request_of.ensures
    (out_listed (g.H.Shelf.told c.args.shelf.now) (g.H.Shelf.faults c.args.shelf.now) (g.H.Shelf.faults c.answer-status.new.shelf) (g.S.Sink.faults c.args.sink.now)
    (g.S.Sink.faults c.answer-status.new.sink) (g.S.Sink.faults c.write_out.new.sink) (g.S.Sink.told c.args.sink.now) (g.S.Sink.told c.answer-status.new.sink)
    (g.S.Sink.told c.write_out.new.sink) (asked c.request_of.result) g.S.Sink.holds_back c.answer-status.result c.write_out.result c.answer-status.ensures.listed c.write_out.ensures.out)
