use Rattle.std.proofs.Common.{◌≡◌, ◌<◌, ◌^◌, false, sym, ap, ◌∙◌, subst, length}
use Rattle.std.specs.Prelude.{slice_get}
use Rattle.std.proofs.lemmas.Option.{slice_get_within, same_Some}
use Rattle.dc_base.specs.ControlBlocks.{ControlBlock}
use Rattle.dc_base.specs.Words.{Each, lists}
use Rattle.dc_base.specs.Kernel.{call_of}
use Rattle.dc_base.specs.Serving.{need, serve, faulted, held_up, served}
use Rattle.dc_calls.specs.declared.sliced.Sliced.{Sliced}
use Rattle.dc_calls.specs.Outsides.{outside_seen}
use Rattle.dc_calls.specs.Serves.{answered}
use Rattle.dc_calls.specs.Slices.{sliced_seen}
use Rattle.dc_calls.proofs.ServeEnds.{running_context, fault_kept, hold_kept, fault_ends, hold_ends, made_ends}
use Rattle.dc_calls.proofs.WokenLists.{ready_stays, stays_unlisted, dues_stay}
use Rattle.dc_calls.proofs.forms.Form.serve.Goals as goal

pub stand-requires-clause-there : goal.stand-requires-clause-there
stand-requires-clause-there g c = subst (λ (x : ControlBlock). c.args.d.0 < length x.states) (sym (let there = running_context c.args.self.now c.args.d.0 c.requires.running in fault_kept c.call.result c.in-Fault.x _ c.in-Fault.is (c.call.ensures.served there.0 there.1).kept).0) (slice_get_within _ _ _ c.requires.running.state)

pub stand-requires-clause-absent : goal.stand-requires-clause-absent
stand-requires-clause-absent g c = subst (λ (x : ControlBlock). lists x.ready c.args.d.0 ≡ false) (sym (let there = running_context c.args.self.now c.args.d.0 c.requires.running in fault_kept c.call.result c.in-Fault.x _ c.in-Fault.is (c.call.ensures.served there.0 there.1).kept).0) c.requires.running.out

pub stand-requires-clause-dues : goal.stand-requires-clause-dues
stand-requires-clause-dues g c = subst (λ (x : ControlBlock). Each x.dues (λ d due. due < 2 ^ 63)) (sym (let there = running_context c.args.self.now c.args.d.0 c.requires.running in fault_kept c.call.result c.in-Fault.x _ c.in-Fault.is (c.call.ensures.served there.0 there.1).kept).0) c.requires.dues

pub stand-requires-in-Hold-clause-there : goal.stand-requires-in-Hold-clause-there
stand-requires-in-Hold-clause-there g c = subst (λ (x : ControlBlock). c.args.d.0 < length x.states) (sym (let there = running_context c.args.self.now c.args.d.0 c.requires.running in hold_kept c.call.result c.in-Hold.w _ c.in-Hold.is (c.call.ensures.served there.0 there.1).kept).0) (slice_get_within _ _ _ c.requires.running.state)

pub stand-requires-in-Hold-clause-absent : goal.stand-requires-in-Hold-clause-absent
stand-requires-in-Hold-clause-absent g c = subst (λ (x : ControlBlock). lists x.ready c.args.d.0 ≡ false) (sym (let there = running_context c.args.self.now c.args.d.0 c.requires.running in hold_kept c.call.result c.in-Hold.w _ c.in-Hold.is (c.call.ensures.served there.0 there.1).kept).0) c.requires.running.out

pub stand-requires-in-Hold-clause-dues : goal.stand-requires-in-Hold-clause-dues
stand-requires-in-Hold-clause-dues g c = subst (λ (x : ControlBlock). Each x.dues (λ d due. due < 2 ^ 63)) (sym (let there = running_context c.args.self.now c.args.d.0 c.requires.running in hold_kept c.call.result c.in-Hold.w _ c.in-Hold.is (c.call.ensures.served there.0 there.1).kept).0) c.requires.dues

pub stay_ready-requires-clause-ready : goal.stay_ready-requires-clause-ready
stay_ready-requires-clause-ready g c =
    ap (λ (x : ControlBlock). slice_get x.states c.args.d.0) c.wake_if.ensures
    ∙ ready_stays c.args.d.0 c.call.new.self c.in-Made.wakes (ap (λ (x : ControlBlock). slice_get x.states c.args.d.0) (let there = running_context c.args.self.now c.args.d.0 c.requires.running in (c.call.ensures.served there.0 there.1).rest) ∙ c.requires.running.state)

pub stay_ready-requires-clause-absent : goal.stay_ready-requires-clause-absent
stay_ready-requires-clause-absent g c =
    ap (λ (x : ControlBlock). lists x.ready c.args.d.0) c.wake_if.ensures
    ∙ stays_unlisted c.args.d.0 c.call.new.self c.in-Made.wakes (ap (λ (x : ControlBlock). slice_get x.states c.args.d.0) (let there = running_context c.args.self.now c.args.d.0 c.requires.running in (c.call.ensures.served there.0 there.1).rest) ∙ c.requires.running.state) (ap (λ (x : ControlBlock). lists x.ready c.args.d.0) (let there = running_context c.args.self.now c.args.d.0 c.requires.running in (c.call.ensures.served there.0 there.1).rest) ∙ c.requires.running.out)

pub stay_ready-requires-clause-dues : goal.stay_ready-requires-clause-dues
stay_ready-requires-clause-dues g c =
    subst (λ dues. Each dues (λ d due. due < 2 ^ 63)) (sym (ap (λ (x : ControlBlock). x.dues) c.wake_if.ensures ∙ (dues_stay c.args.d.0 c.call.new.self c.in-Made.wakes ∙ ap (λ (x : ControlBlock). x.dues) (let there = running_context c.args.self.now c.args.d.0 c.requires.running in (c.call.ensures.served there.0 there.1).rest)))) c.requires.dues

pub returns-in-Fault-clause-slice : goal.returns-in-Fault-clause-slice
returns-in-Fault-clause-slice g c = λ x o there named.
    let sv = c.call.ensures.served x there in
    let kept = fault_kept c.call.result c.in-Fault.x _ c.in-Fault.is sv.kept in
    let out = outside_seen c.args.outside.now in
    let call = call_of c.args.time c.args.d.0 x c.args.instr.now c.args.self.now.parts in
    let answer : faulted c.in-Fault.x ≡ serve c.args.core.0 c.args.block.0 call out = subst (λ a. answered a c.call.new.self.parts (outside_seen c.call.new.outside) ≡ serve c.args.core.0 c.args.block.0 call out) c.in-Fault.is sv.answer in
    ap (λ (s : Sliced). sliced_seen c.stand.new.self s (need call) (outside_seen c.call.new.outside)) c.stopped.ensures
    ∙ fault_ends g.R.ReadyList.policy c.args.d.0 c.args.ran (need call) c.args.self.now c.call.new.self out (outside_seen c.call.new.outside) (serve c.args.core.0 c.args.block.0 call out) o c.stand.new.self c.in-Fault.x answer kept.0 kept.1 c.stand.ensures

pub returns-in-Hold-clause-slice : goal.returns-in-Hold-clause-slice
returns-in-Hold-clause-slice g c = λ x o there named.
    let sv = c.call.ensures.served x there in
    let kept = hold_kept c.call.result c.in-Hold.w _ c.in-Hold.is sv.kept in
    let out = outside_seen c.args.outside.now in
    let call = call_of c.args.time c.args.d.0 x c.args.instr.now c.args.self.now.parts in
    let answer : held_up c.in-Hold.w ≡ serve c.args.core.0 c.args.block.0 call out = subst (λ a. answered a c.call.new.self.parts (outside_seen c.call.new.outside) ≡ serve c.args.core.0 c.args.block.0 call out) c.in-Hold.is sv.answer in
    ap (λ (s : Sliced). sliced_seen c.stand-in-Hold.new.self s (need call) (outside_seen c.call.new.outside)) c.stopped-in-Hold.ensures
    ∙ hold_ends g.R.ReadyList.policy c.args.d.0 c.args.ran (need call) c.args.self.now c.call.new.self out (outside_seen c.call.new.outside) (serve c.args.core.0 c.args.block.0 call out) c.unwrap-op.result o (same_Some _ _ (sym c.unwrap-op.ensures ∙ (c.call_name.ensures ∙ named))) c.stand-in-Hold.new.self c.in-Hold.w answer kept.0 kept.1 c.stand-in-Hold.ensures

pub returns-in-Made-clause-slice : goal.returns-in-Made-clause-slice
returns-in-Made-clause-slice g c = λ x o there named.
    let sv = c.call.ensures.served x there in
    let out = outside_seen c.args.outside.now in
    let call = call_of c.args.time c.args.d.0 x c.args.instr.now c.args.self.now.parts in
    let answer : served c.in-Made.wakes c.call.new.self.parts (outside_seen c.call.new.outside) ≡ serve c.args.core.0 c.args.block.0 call out = subst (λ a. answered a c.call.new.self.parts (outside_seen c.call.new.outside) ≡ serve c.args.core.0 c.args.block.0 call out) c.in-Made.is sv.answer in
    made_ends g.R.ReadyList.policy c.args.d.0 c.args.ran (need call) c.args.self.now c.call.new.self out (outside_seen c.call.new.outside) (serve c.args.core.0 c.args.block.0 call out) c.unwrap-op.result o (same_Some _ _ (sym c.unwrap-op.ensures ∙ (c.call_name.ensures ∙ named))) c.stay_ready.new.self c.wake_if.new.self c.in-Made.wakes answer sv.rest c.wake_if.ensures c.stay_ready.ensures
