use Rattle.std.proofs.Common.{◌≡◌, rules, sym, ap, ◌∙◌, map}
use Rattle.dc_base.specs.Capabilities.{slot_number, without_line}
use Rattle.dc_base.specs.Instructions.{is_proper}
use Rattle.dc_base.specs.Kernel.{call_of, with_next_place, give_call}
use Rattle.dc_caps.specs.Caps.{Caps}
use Rattle.dc_calls.proofs.CallServed.{serves_faults}
use Rattle.dc_calls.proofs.CapsNeeded.{two_held}
use Rattle.dc_calls.proofs.CapsServed.{Runs, disp_below, caps_are, moved_on}
use Rattle.dc_calls.proofs.LineServed.{give_missed, give_serves}
use Rattle.dc_calls.proofs.forms.Form.give.Goals as goal

pub look-requires-clause-slot : goal.look-requires-clause-slot
unfolding is_proper
look-requires-clause-slot g c = search rules

pub look-requires-2-clause-slot : goal.look-requires-2-clause-slot
unfolding is_proper
look-requires-2-clause-slot g c = search rules

pub look-requires-2-clause-disp : goal.look-requires-2-clause-disp
look-requires-2-clause-disp g c =
    let f = c.self.inside in
    let h : Runs f.memory.items (map (λ v. v.items) f.code.items) f.ports.items f.table f.agenda c.args.self.now c.args.d.0 = record { seen = c.self.view_is; same = c.self.invariant; run = c.requires.running } in
    disp_below h

pub returns-in-Err-clause-served : goal.returns-in-Err-clause-served
unfolding call_of
returns-in-Err-clause-served g c =
    let f = c.self.inside in
    let h : Runs f.memory.items (map (λ v. v.items) f.code.items) f.ports.items f.table f.agenda c.args.self.now c.args.d.0 = record { seen = c.self.view_is; same = c.self.invariant; run = c.requires.running } in
    λ y n time x e. serves_faults _ _ _ c.args.self.now c.args.self.now _ _ c.trap.result (sym (two_held f.table.set c.args.self.now.parts.caps (caps_are h) (slot_number c.args.d.0 c.args.a) (slot_number c.args.d.0 c.args.b) c.look.result c.look-2.result c.look.ensures.value c.look-2.ensures.value (give_call (with_next_place c.args.d.0 x c.args.self.now.parts))) ∙ c.in-Err.ensures.call (with_next_place c.args.d.0 x c.args.self.now.parts)) c.trap.ensures

pub returns-in_default : goal.returns-in_default
unfolding call_of
returns-in_default g c =
    let f = c.self.inside in
    let h : Runs f.memory.items (map (λ v. v.items) f.code.items) f.ports.items f.table f.agenda c.args.self.now c.args.d.0 = record { seen = c.self.view_is; same = c.self.invariant; run = c.requires.running } in
    record {
      served = λ y n time x e. give_missed _ _ _ c.args.self.now c.in-Ok.gift.line.0 c.in-Ok.gift.channel.0 c.in-Ok.gift.rights (record (with_next_place c.args.d.0 x c.args.self.now.parts) { caps = without_line c.in-Ok.gift.line.0 c.args.self.now.parts.caps }) c.args.outside.now (sym (two_held f.table.set c.args.self.now.parts.caps (caps_are h) (slot_number c.args.d.0 c.args.a) (slot_number c.args.d.0 c.args.b) c.look.result c.look-2.result c.look.ensures.value c.look-2.ensures.value (give_call (with_next_place c.args.d.0 x c.args.self.now.parts))) ∙ c.in-Ok.ensures.call (with_next_place c.args.d.0 x c.args.self.now.parts)) c.in_default.not-Line;
      kind = λ m i. i;
    }

pub returns-clause-served : goal.returns-clause-served
unfolding call_of
returns-clause-served g c =
    let f = c.self.inside in
    let h : Runs f.memory.items (map (λ v. v.items) f.code.items) f.ports.items f.table f.agenda c.args.self.now c.args.d.0 = record { seen = c.self.view_is; same = c.self.invariant; run = c.requires.running } in
    let left : c.give.new.self.set ≡ without_line c.in-Ok.gift.line.0 c.args.self.now.parts.caps = ap (λ (t : Caps). t.set) c.give.ensures ∙ ap (λ set. without_line c.in-Ok.gift.line.0 set) (sym (caps_are h)) in
    λ y n time x e. give_serves _ _ _ c.args.self.now c.args.outside.now c.in-Line.line c.give-2.new.self c.in-Line.is c.in-Ok.gift.line.0 c.in-Ok.gift.channel.0 c.in-Ok.gift.rights (record (with_next_place c.args.d.0 x c.args.self.now.parts) { caps = without_line c.in-Ok.gift.line.0 c.args.self.now.parts.caps }) _
    (sym (two_held f.table.set c.args.self.now.parts.caps (caps_are h) (slot_number c.args.d.0 c.args.a) (slot_number c.args.d.0 c.args.b) c.look.result c.look-2.result c.look.ensures.value c.look-2.ensures.value (give_call (with_next_place c.args.d.0 x c.args.self.now.parts))) ∙ c.in-Ok.ensures.call (with_next_place c.args.d.0 x c.args.self.now.parts)) c.give-2.ensures
    (moved_on h c.give.new.self c.go_on.new.self c.go_on.ensures x e ∙ ap (λ set. record c.args.self.now { parts = record (with_next_place c.args.d.0 x c.args.self.now.parts) { caps = set } }) left)
