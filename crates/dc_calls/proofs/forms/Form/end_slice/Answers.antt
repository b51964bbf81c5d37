use Rattle.std.proofs.Common.{◌≡◌, ◌<◌, sym, ap, ◌∙◌, subst, length}
use Rattle.std.specs.Prelude.{slice_get, IsTrue}
use Rattle.std.proofs.lemmas.Option.{slice_get_within}
use Rattle.dc_base.specs.declared.calls.End.TheVariants as end
use Rattle.dc_base.specs.declared.dispatchers.DispState.TheVariants as disp
use Rattle.dc_base.specs.ControlBlocks.{ControlBlock}
use Rattle.dc_base.specs.Kernel.{call_of}
use Rattle.dc_base.specs.Serving.{need, serve}
use Rattle.dc_base.specs.Slices.{ready_last, with_state, with_ahead, due_after, with_due, after_served, without_ready}
use Rattle.dc_exec.specs.Calls.{end_at}
use Rattle.dc_exec.specs.Ends.{end_seen, is_proper_end}
use Rattle.dc_calls.specs.Outsides.{outside_seen}
use Rattle.dc_calls.specs.Slices.{sliced_seen}
use Rattle.dc_calls.proofs.RunEnds.{stopped_as, quantum_end, halt_end, trap_end, call_end, call_named, set_there}
use Rattle.dc_calls.proofs.ServeEnds.{running_context}
use Rattle.dc_calls.proofs.forms.Form.end_slice.Goals as goal

pub stand-requires-clause-there : goal.stand-requires-clause-there
stand-requires-clause-there g c = subst (λ (x : ControlBlock). c.args.d.0 < length x.states) (sym c.take_out.ensures) (slice_get_within _ _ _ c.requires.running.state)

pub stand-requires-in-Trap-clause-there : goal.stand-requires-in-Trap-clause-there
stand-requires-in-Trap-clause-there g c = subst (λ (x : ControlBlock). c.args.d.0 < length x.states) (sym c.take_out.ensures) (slice_get_within _ _ _ c.requires.running.state)

pub returns-in-Quantum-clause-slice : goal.returns-in-Quantum-clause-slice
returns-in-Quantum-clause-slice g c = λ x a is fits.
    let v = g.R.ReadyList.policy in
    let d = c.args.d in
    let out = c.take_out.ensures ∙ ap (without_ready d.0) is.control in
    quantum_end v d c.args.fired c.args.time c.args.core.0 c.args.block.0 (without_ready d.0 x) a c.stay_ready.new.self c.stopped.result c.args.outside.now
    (sym is.end ∙ ap end_seen c.in-Quantum.is) (c.stay_ready.ensures ∙ ap (λ (y : ControlBlock). due_after v d.0 (ready_last d.0 y)) out) (c.stopped.ensures ∙ ap (λ n. stopped_as d c.args.fired n end.Quantum) is.ran) fits

pub returns-in-Halt-clause-slice : goal.returns-in-Halt-clause-slice
returns-in-Halt-clause-slice g c = λ x a is fits.
    let v = g.R.ReadyList.policy in
    let d = c.args.d in
    let out = c.take_out.ensures ∙ ap (without_ready d.0) is.control in
    halt_end v d c.args.fired c.args.time c.args.core.0 c.args.block.0 (without_ready d.0 x) a c.stand.new.self c.stopped-in-Halt.result c.args.outside.now
    (sym is.end ∙ ap end_seen c.in-Halt.is) (c.stand.ensures ∙ ap (λ (y : ControlBlock). due_after v d.0 (with_state d.0 disp.Halted y)) out) (c.stopped-in-Halt.ensures ∙ ap (λ n. stopped_as d c.args.fired n end.Halt) is.ran) fits

pub returns-in-Trap-clause-slice : goal.returns-in-Trap-clause-slice
returns-in-Trap-clause-slice g c = λ x a is fits.
    let v = g.R.ReadyList.policy in
    let d = c.args.d in
    let t = c.in-Trap.x in
    let out = c.take_out.ensures ∙ ap (without_ready d.0) is.control in
    trap_end v d c.args.fired c.args.time c.args.core.0 c.args.block.0 (without_ready d.0 x) a c.stand-in-Trap.new.self c.stopped-in-Trap.result c.args.outside.now
    t (sym is.end ∙ ap end_seen c.in-Trap.is) (c.stand-in-Trap.ensures ∙ ap (λ (y : ControlBlock). due_after v d.0 (with_state d.0 (disp.Trapped t) y)) out) (c.stopped-in-Trap.ensures ∙ ap (λ n. stopped_as d c.args.fired n (end.Trap t)) is.ran) fits

pub returns-in-Call-clause-slice : goal.returns-in-Call-clause-slice
returns-in-Call-clause-slice g c = λ x a is fits.
    let v = g.R.ReadyList.policy in
    let d = c.args.d in
    let b = without_ready d.0 x in
    let i = c.in-Call.instr in
    let named = call_named i (subst (λ e. IsTrue (is_proper_end e)) c.in-Call.is c.requires.proper) in
    let before = outside_seen c.args.outside.now in
    let after = outside_seen c.serve.new.outside in
    let out = c.take_out.ensures ∙ ap (without_ready d.0) is.control in
    let running = running_context (without_ready d.0 c.args.self.now) d.0 c.requires.running in
    let there = ap (λ (y : ControlBlock). slice_get y.parts.contexts d.0) out ∙ set_there x.parts.contexts d.0 a.context running.0 (ap (λ (y : ControlBlock). slice_get y.parts.contexts d.0) (sym is.control) ∙ running.1) in
    call_end v d c.args.fired c.args.time c.args.core.0 c.args.block.0 b a c.serve.new.self c.serve.result c.args.outside.now named.0 i c.serve.new.outside
    (sym is.end ∙ (ap end_seen c.in-Call.is ∙ ap (λ o. end_at o i) named.1))
    (subst (λ n. let call = call_of c.args.time d.0 a.context i (with_ahead b d.0 a).parts in
    sliced_seen c.serve.new.self c.serve.result (need call) after ≡ with_due v d.0 (after_served (with_ahead b d.0 a) d.0 n named.0 (need call) before (serve c.args.core.0 c.args.block.0 call before))) is.ran
    (subst (λ (y : ControlBlock). let call = call_of c.args.time d.0 a.context i y.parts in
    sliced_seen c.serve.new.self c.serve.result (need call) after ≡ with_due v d.0 (after_served y d.0 c.args.part.now.ran named.0 (need call) before (serve c.args.core.0 c.args.block.0 call before)))
    out (c.serve.ensures.slice a.context named.0 there named.1)))
