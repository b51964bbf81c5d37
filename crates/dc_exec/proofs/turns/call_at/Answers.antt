use Rattle.std.proofs.Common.{rules, ◌≡◌, Some, None, ap, sym, ◌∙◌}
use Rattle.std.specs.Prelude.{slice_get}
use Rattle.dc_base.specs.Ahead.{last_look}
use Rattle.dc_exec.specs.Calls.{end_at_place}
use Rattle.dc_exec.proofs.Standing.{act-past, act-blank, last_look-act-plain, last_look-act-call}
use Rattle.dc_exec.proofs.turns.call_at.Goals as goal

pub returns-in_err-word-clause-end : goal.returns-in_err-word-clause-end
returns-in_err-word-clause-end c = λ time regs memory.
    let past : slice_get c.args.code.now c.args.place ≡ None = search rules in
    ap last_look (act-past time c.args.code.now (record { regs = regs; place = c.args.place }) memory past) ∙ sym (ap end_at_place c.from_residual.ensures)

pub returns-in_err-instr-clause-end : goal.returns-in_err-instr-clause-end
returns-in_err-instr-clause-end c = λ time regs memory.
    let there : slice_get c.args.code.now c.args.place ≡ Some c.in_ok-word.word = search rules in
    ap last_look (act-blank time c.args.code.now (record { regs = regs; place = c.args.place }) memory c.in_ok-word.word there (search rules)) ∙ sym (ap end_at_place c.from_residual-in_err-instr.ensures)

pub returns-then-is_some-clause-end : goal.returns-then-is_some-clause-end
returns-then-is_some-clause-end c = λ time regs memory.
    let there : slice_get c.args.code.now c.args.place ≡ Some c.in_ok-word.word = search rules in
    last_look-act-call time c.args.code.now (record { regs = regs; place = c.args.place }) memory c.in_ok-word.word there c.in_ok-instr.instr (search rules) (search rules)

pub returns-else-is_some-clause-end : goal.returns-else-is_some-clause-end
returns-else-is_some-clause-end c = λ time regs memory.
    let there : slice_get c.args.code.now c.args.place ≡ Some c.in_ok-word.word = search rules in
    last_look-act-plain time c.args.code.now (record { regs = regs; place = c.args.place }) memory c.in_ok-word.word there c.in_ok-instr.instr (search rules) (search rules)
