use Rattle.std.proofs.Common.{◌+◌, ap, ◌∙◌, arith}
use Rattle.dc_isa.specs.declared.dispatchers.Dispatcher.{Dispatcher}
use Rattle.dc_exec.specs.declared.ends.Ran.{Ran}
use Rattle.dc_exec.specs.declared.ends.AheadEnd.TheVariants as end
use Rattle.dc_exec.specs.Steps.{context_of, with_context}
use Rattle.dc_exec.specs.Calls.{end_at}
use Rattle.dc_exec.specs.Slices.{ran_seen}
use Rattle.dc_exec.proofs.Foreseen.{forward-goes, forward-halts, forward-traps, forward-calls}
use Rattle.dc_exec.proofs.slices.run.Goals as goal

pub loop-ran-preserved : goal.loop-ran-preserved
loop-ran-preserved g c =
    let went = c.in-Next.ensures.turn in
    let told = c.loop-ran.invariant in
    let here = context_of c.loop-ran.d in
    let there = context_of c.run_place.new.d in
    record {
      size = c.run_place.ensures.size;
      room = omega (arith, c.run_place.ensures.room, told.room, c.loop-ran-test.true);
      same = went.same ∙ ap (λ (d : Dispatcher). with_context d there) told.same;
      place = λ _. went.place;
      told = forward-goes c.args.time c.args.code.now c.args.quantum c.loop-ran.ran c.loop-ran-test.true here (g.M.Memory.words c.loop-ran.mem) _ told.told there (g.M.Memory.words c.run_place.new.mem) went.move;
    }

pub returns-in-Halted-clause-value : goal.returns-in-Halted-clause-value
returns-in-Halted-clause-value g c =
    let went = c.in-Halted.ensures.turn in
    let memory = g.M.Memory.words c.loop-ran.mem in
    let r : Ran = record { ran = c.loop-ran.ran + 1; end = end.Halt } in
    ap (λ (d : Dispatcher). ran_seen d (g.M.Memory.words c.run_place.new.mem) r) went.1
    ∙ (ap (λ words. ran_seen c.loop-ran.d words r) went.2
    ∙ forward-halts c.args.time c.args.code.now c.args.quantum c.loop-ran.ran c.loop-ran-test.true (context_of c.loop-ran.d) memory _ c.loop-ran.invariant.told went.0)

pub returns-in-Trap-clause-value : goal.returns-in-Trap-clause-value
returns-in-Trap-clause-value g c =
    let went = c.in-Trap.ensures.turn in
    let memory = g.M.Memory.words c.loop-ran.mem in
    let r : Ran = record { ran = c.loop-ran.ran; end = end.Trap c.in-Trap.x } in
    ap (λ (d : Dispatcher). ran_seen d (g.M.Memory.words c.run_place.new.mem) r) went.1
    ∙ (ap (λ words. ran_seen c.loop-ran.d words r) went.2
    ∙ forward-traps c.args.time c.args.code.now c.args.quantum c.loop-ran.ran c.loop-ran-test.true (context_of c.loop-ran.d) memory _ c.loop-ran.invariant.told c.in-Trap.x went.0)

pub returns-in-Call-clause-value : goal.returns-in-Call-clause-value
returns-in-Call-clause-value g c =
    let went = c.in-Call.ensures.turn in
    let memory = g.M.Memory.words c.loop-ran.mem in
    let r : Ran = record { ran = c.loop-ran.ran; end = end.Call c.in-Call.instr } in
    ap (λ (d : Dispatcher). ran_seen d (g.M.Memory.words c.run_place.new.mem) r) went.1
    ∙ (ap (λ words. ran_seen c.loop-ran.d words r) went.2
    ∙ (ap (λ o. record { context = context_of c.loop-ran.d; memory = memory; ran = c.loop-ran.ran; end = end_at o c.in-Call.instr }) went.0.named ∙ forward-calls c.args.time c.args.code.now c.args.quantum c.loop-ran.ran c.loop-ran-test.true (context_of c.loop-ran.d) memory _ c.loop-ran.invariant.told went.0.name c.in-Call.instr went.0.move))
