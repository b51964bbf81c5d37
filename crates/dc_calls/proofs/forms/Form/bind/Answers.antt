use Rattle.std.proofs.Common.{rules, sym, ◌∙◌, map}
use Rattle.dc_base.specs.Capabilities.{slot_number}
use Rattle.dc_base.specs.Instructions.{is_proper}
use Rattle.dc_base.specs.Kernel.{call_of, with_next_place, bind_call}
use Rattle.dc_calls.proofs.CallServed.{serves_faults}
use Rattle.dc_calls.proofs.CapsNeeded.{two_held}
use Rattle.dc_calls.proofs.CapsServed.{Runs, disp_below, caps_are}
use Rattle.dc_calls.proofs.LineServed.{bind_missed, bind_serves}
use Rattle.dc_calls.proofs.forms.Form.bind.Goals as goal

pub look-requires-clause-slot : goal.look-requires-clause-slot
unfolding is_proper
look-requires-clause-slot g c = search rules

pub look-requires-2-clause-slot : goal.look-requires-2-clause-slot
unfolding is_proper
look-requires-2-clause-slot g c = search rules

pub look-requires-2-clause-disp : goal.look-requires-2-clause-disp
look-requires-2-clause-disp g c =
    let f = c.self.inside in
    let h : Runs f.memory.items (map (λ v. v.items) f.code.items) f.ports.items f.table f.agenda c.args.self.now c.args.d.0 = record { seen = c.self.view_is; same = c.self.invariant; run = c.requires.running } in
    disp_below h

pub returns-in-Err-clause-served : goal.returns-in-Err-clause-served
unfolding call_of
returns-in-Err-clause-served g c =
    let f = c.self.inside in
    let h : Runs f.memory.items (map (λ v. v.items) f.code.items) f.ports.items f.table f.agenda c.args.self.now c.args.d.0 = record { seen = c.self.view_is; same = c.self.invariant; run = c.requires.running } in
    λ time x e. serves_faults _ _ _ c.args.self.now c.args.self.now _ _ c.trap.result (sym (two_held f.table.set c.args.self.now.parts.caps (caps_are h) (slot_number c.args.d.0 c.args.a) (slot_number c.args.d.0 c.args.b) c.look.result c.look-2.result c.look.ensures.value c.look-2.ensures.value (bind_call (with_next_place c.args.d.0 x c.args.self.now.parts))) ∙ c.in-Err.ensures (with_next_place c.args.d.0 x c.args.self.now.parts)) c.trap.ensures

pub returns-in_default : goal.returns-in_default
unfolding call_of
returns-in_default g c =
    let f = c.self.inside in
    let h : Runs f.memory.items (map (λ v. v.items) f.code.items) f.ports.items f.table f.agenda c.args.self.now c.args.d.0 = record { seen = c.self.view_is; same = c.self.invariant; run = c.requires.running } in
    record {
      served = λ time x e. bind_missed _ _ _ c.args.self.now c.in-Ok.field-0-0.0 c.in-Ok.signal.0 (with_next_place c.args.d.0 x c.args.self.now.parts) c.args.outside.now (sym (two_held f.table.set c.args.self.now.parts.caps (caps_are h) (slot_number c.args.d.0 c.args.a) (slot_number c.args.d.0 c.args.b) c.look.result c.look-2.result c.look.ensures.value c.look-2.ensures.value (bind_call (with_next_place c.args.d.0 x c.args.self.now.parts))) ∙ c.in-Ok.ensures (with_next_place c.args.d.0 x c.args.self.now.parts)) c.in_default.not-Line;
      kind = λ m i. i;
    }

pub returns-clause-served : goal.returns-clause-served
unfolding call_of
returns-clause-served g c =
    let f = c.self.inside in
    let h : Runs f.memory.items (map (λ v. v.items) f.code.items) f.ports.items f.table f.agenda c.args.self.now c.args.d.0 = record { seen = c.self.view_is; same = c.self.invariant; run = c.requires.running } in
    λ time x e. bind_serves _ _ _ c.args.self.now c.args.outside.now c.in-Line.line c.bind.new.self c.in-Line.is c.in-Ok.field-0-0.0 c.in-Ok.signal.0 (with_next_place c.args.d.0 x c.args.self.now.parts) c.go_on.new.self (sym (two_held f.table.set c.args.self.now.parts.caps (caps_are h) (slot_number c.args.d.0 c.args.a) (slot_number c.args.d.0 c.args.b) c.look.result c.look-2.result c.look.ensures.value c.look-2.ensures.value (bind_call (with_next_place c.args.d.0 x c.args.self.now.parts))) ∙ c.in-Ok.ensures (with_next_place c.args.d.0 x c.args.self.now.parts)) c.bind.ensures (c.go_on.ensures x e)
