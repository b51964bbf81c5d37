use Rattle.std.proofs.Common.{rules, arith, ◌≡◌, ◌≤◌, ◌<◌, ◌∙◌, Some, length, ◌+◌, max}
use Rattle.std.specs.Prelude.{slice_get}
use Rattle.std.proofs.lemmas.Option.{slice_get_within}
use Rattle.dc_exec.specs.Steps.{context_of}
use Rattle.dc_exec.proofs.Standing.{stands, goes_on, act-instr}
use Rattle.dc_exec.proofs.turns.run_place.Goals as goal

pub returns-then-is_some-clause-turn : goal.returns-then-is_some-clause-turn
returns-then-is_some-clause-turn g c =
    let there : slice_get c.args.code.now c.args.d.now.place ≡ Some c.in-Some.word = search rules in
    let within : c.args.d.now.place < length c.args.code.now = slice_get_within _ _ _ there in
    (stands c.args.time c.args.code.now c.args.d.now (g.M.Memory.words c.args.mem.now) c.in-Some.word there c.in-Some-decode.instr (search rules) (search rules) (search rules) within, search rules, search rules)

pub returns-in-Next-clause-turn : goal.returns-in-Next-clause-turn
returns-in-Next-clause-turn g c =
    let there : slice_get c.args.code.now c.args.d.now.place ≡ Some c.in-Some.word = search rules in
    let within : c.args.d.now.place < length c.args.code.now = slice_get_within _ _ _ there in
    let place : c.plain.new.d.place ≤ max (c.args.d.now.place + 1) 65535 = c.in-Next.ensures.place in
    goes_on c.args.time c.args.code.now c.args.d.now c.plain.new.d (g.M.Memory.words c.args.mem.now) (g.M.Memory.words c.plain.new.mem) c.in-Some.word there c.in-Some-decode.instr (search rules) c.in-Next.ensures.went (omega arith)

pub returns-in-Halted-clause-turn : goal.returns-in-Halted-clause-turn
returns-in-Halted-clause-turn g c =
    let there : slice_get c.args.code.now c.args.d.now.place ≡ Some c.in-Some.word = search rules in
    let went = c.in-Halted.ensures.went in
    (act-instr c.args.time c.args.code.now (context_of c.args.d.now) (g.M.Memory.words c.args.mem.now) c.in-Some.word there c.in-Some-decode.instr (search rules) ∙ went.0, went.1, went.2)

pub returns-in-Trap-clause-turn : goal.returns-in-Trap-clause-turn
returns-in-Trap-clause-turn g c =
    let there : slice_get c.args.code.now c.args.d.now.place ≡ Some c.in-Some.word = search rules in
    let went = c.in-Trap.ensures.went in
    (act-instr c.args.time c.args.code.now (context_of c.args.d.now) (g.M.Memory.words c.args.mem.now) c.in-Some.word there c.in-Some-decode.instr (search rules) ∙ went.0, went.1, went.2)
