use Rattle.std.proofs.Common.{◌≡◌, false, rules, refl, sym, ap, subst, ◌∙◌, map}
use Rattle.std.specs.Prelude.{is_some, IsOk}
use Rattle.dc_base.specs.Capabilities.{slot_number, is_used, with_root}
use Rattle.dc_base.specs.declared.capabilities.CapKind.TheVariants.{Line as of_line}
use Rattle.dc_base.specs.Instructions.{is_proper}
use Rattle.dc_base.specs.Kernel.{call_of, with_next_place, claim_call}
use Rattle.dc_caps.specs.Caps.{Caps}
use Rattle.dc_calls.proofs.CallServed.{serves_faults}
use Rattle.dc_calls.proofs.CapsNeeded.{two_held, used_where}
use Rattle.dc_calls.proofs.CapsServed.{Runs, disp_within, disp_below, caps_are, moved_on}
use Rattle.dc_calls.proofs.LineServed.{claim_missed, claim_serves, claim_unoffered, free_where, ok_where, when_ok}
use Rattle.dc_calls.proofs.forms.Form.claim.Goals as goal

pub look-requires-clause-slot : goal.look-requires-clause-slot
unfolding is_proper
look-requires-clause-slot g c = search rules

pub look-requires-2-clause-slot : goal.look-requires-2-clause-slot
unfolding is_proper
look-requires-2-clause-slot g c = search rules

pub look-requires-2-clause-disp : goal.look-requires-2-clause-disp
look-requires-2-clause-disp g c =
    let f = c.self.inside in
    let h : Runs f.memory.items (map (λ v. v.items) f.code.items) f.ports.items f.table f.agenda c.args.self.now c.args.d.0 = record { seen = c.self.view_is; same = c.self.invariant; run = c.requires.running } in
    disp_below h

pub returns-in-Err-clause-served : goal.returns-in-Err-clause-served
unfolding call_of
returns-in-Err-clause-served g c =
    let f = c.self.inside in
    let h : Runs f.memory.items (map (λ v. v.items) f.code.items) f.ports.items f.table f.agenda c.args.self.now c.args.d.0 = record { seen = c.self.view_is; same = c.self.invariant; run = c.requires.running } in
    let used = ap (λ caps. is_used caps (slot_number c.args.d.0 c.args.b)) (caps_are h) ∙ used_where f.table.set (slot_number c.args.d.0 c.args.b) ∙ ap is_some (sym c.look-2.ensures.value) ∙ sym c.is_some.ensures in
    λ y n time x e. serves_faults _ _ _ c.args.self.now c.args.self.now _ _ c.trap.result (sym (two_held f.table.set c.args.self.now.parts.caps (caps_are h) (slot_number c.args.d.0 c.args.a) (slot_number c.args.d.0 c.args.b) c.look.result c.look-2.result c.look.ensures.value c.look-2.ensures.value (λ a b. claim_call c.args.imm (slot_number c.args.d.0 c.args.b) (with_next_place c.args.d.0 x c.args.self.now.parts) a)) ∙ c.in-Err.ensures c.args.imm (slot_number c.args.d.0 c.args.b) (with_next_place c.args.d.0 x c.args.self.now.parts) used) c.trap.ensures

pub returns-in_default : goal.returns-in_default
unfolding call_of
returns-in_default g c =
    let f = c.self.inside in
    let h : Runs f.memory.items (map (λ v. v.items) f.code.items) f.ports.items f.table f.agenda c.args.self.now c.args.d.0 = record { seen = c.self.view_is; same = c.self.invariant; run = c.requires.running } in
    let used = ap (λ caps. is_used caps (slot_number c.args.d.0 c.args.b)) (caps_are h) ∙ used_where f.table.set (slot_number c.args.d.0 c.args.b) ∙ ap is_some (sym c.look-2.ensures.value) ∙ sym c.is_some.ensures in
    record {
      served = λ y n time x e. claim_missed _ _ _ c.args.self.now c.args.imm c.in-Ok.channel.0 (slot_number c.args.d.0 c.args.b) (with_next_place c.args.d.0 x c.args.self.now.parts) c.args.outside.now (sym (two_held f.table.set c.args.self.now.parts.caps (caps_are h) (slot_number c.args.d.0 c.args.a) (slot_number c.args.d.0 c.args.b) c.look.result c.look-2.result c.look.ensures.value c.look-2.ensures.value (λ a b. claim_call c.args.imm (slot_number c.args.d.0 c.args.b) (with_next_place c.args.d.0 x c.args.self.now.parts) a)) ∙ c.in-Ok.ensures c.args.imm (slot_number c.args.d.0 c.args.b) (with_next_place c.args.d.0 x c.args.self.now.parts) used) c.in_default.not-Line;
      kind = λ m i. i;
    }

pub returns-in_default-claim-clause-served : goal.returns-in_default-claim-clause-served
unfolding call_of
returns-in_default-claim-clause-served g c =
    let f = c.self.inside in
    let h : Runs f.memory.items (map (λ v. v.items) f.code.items) f.ports.items f.table f.agenda c.args.self.now c.args.d.0 = record { seen = c.self.view_is; same = c.self.invariant; run = c.requires.running } in
    let used = ap (λ caps. is_used caps (slot_number c.args.d.0 c.args.b)) (caps_are h) ∙ used_where f.table.set (slot_number c.args.d.0 c.args.b) ∙ ap is_some (sym c.look-2.ensures.value) ∙ sym c.is_some.ensures in
    λ y n time x e. claim_unoffered _ _ _ c.args.self.now c.args.outside.now c.in-Line.line c.claim.new.self c.in-Line.is c.args.imm c.in-Ok.channel.0 (slot_number c.args.d.0 c.args.b) (with_next_place c.args.d.0 x c.args.self.now.parts) (sym (two_held f.table.set c.args.self.now.parts.caps (caps_are h) (slot_number c.args.d.0 c.args.a) (slot_number c.args.d.0 c.args.b) c.look.result c.look-2.result c.look.ensures.value c.look-2.ensures.value (λ a b. claim_call c.args.imm (slot_number c.args.d.0 c.args.b) (with_next_place c.args.d.0 x c.args.self.now.parts) a)) ∙ c.in-Ok.ensures c.args.imm (slot_number c.args.d.0 c.args.b) (with_next_place c.args.d.0 x c.args.self.now.parts) used) (sym c.in_default-claim.ensures.rights) c.in_default-claim.ensures.kept

pub claim-requires-2-clause-disp : goal.claim-requires-2-clause-disp
claim-requires-2-clause-disp g c =
    let f = c.self.inside in
    let h : Runs f.memory.items (map (λ v. v.items) f.code.items) f.ports.items f.table f.agenda c.args.self.now c.args.d.0 = record { seen = c.self.view_is; same = c.self.invariant; run = c.requires.running } in
    disp_within h

pub claim-requires-2-clause-slot : goal.claim-requires-2-clause-slot
unfolding is_proper
claim-requires-2-clause-slot g c = search rules

pub unwrap-requires : goal.unwrap-requires
unwrap-requires g c =
    let f = c.self.inside in
    let h : Runs f.memory.items (map (λ v. v.items) f.code.items) f.ports.items f.table f.agenda c.args.self.now c.args.d.0 = record { seen = c.self.view_is; same = c.self.invariant; run = c.requires.running } in
    let used = ap (λ caps. is_used caps (slot_number c.args.d.0 c.args.b)) (caps_are h) ∙ used_where f.table.set (slot_number c.args.d.0 c.args.b) ∙ ap is_some (sym c.look-2.ensures.value) ∙ sym c.is_some.ensures in
    let free : is_used f.table.set (slot_number c.args.d.0 c.args.b) ≡ false = ap (λ caps. is_used caps (slot_number c.args.d.0 c.args.b)) (sym (caps_are h)) ∙ free_where c.args.imm (slot_number c.args.d.0 c.args.b) c.in-Ok.channel.0 c.args.self.now.parts c.args.self.now.parts c.look.result (c.in-Ok.ensures c.args.imm (slot_number c.args.d.0 c.args.b) c.args.self.now.parts used) in
    subst IsOk (sym (ok_where f.table.set (slot_number c.args.d.0 c.args.b) c.claim-2.result c.claim-2.ensures.answer free)) refl

pub returns-clause-served : goal.returns-clause-served
unfolding call_of
returns-clause-served g c =
    let f = c.self.inside in
    let h : Runs f.memory.items (map (λ v. v.items) f.code.items) f.ports.items f.table f.agenda c.args.self.now c.args.d.0 = record { seen = c.self.view_is; same = c.self.invariant; run = c.requires.running } in
    let used = ap (λ caps. is_used caps (slot_number c.args.d.0 c.args.b)) (caps_are h) ∙ used_where f.table.set (slot_number c.args.d.0 c.args.b) ∙ ap is_some (sym c.look-2.ensures.value) ∙ sym c.is_some.ensures in
    let now = when_ok c.claim-2.result _ c.unwrap.ensures c.claim-2.ensures.ok in
    let left : c.claim-2.new.self.set ≡ with_root (slot_number c.args.d.0 c.args.b) (record { kind = of_line (record { 0 = c.args.imm }); rights = c.in-Some.rights }) c.args.self.now.parts.caps = ap (λ (t : Caps). t.set) now ∙ ap (λ set. with_root (slot_number c.args.d.0 c.args.b) (record { kind = of_line (record { 0 = c.args.imm }); rights = c.in-Some.rights }) set) (sym (caps_are h)) in
    λ y n time x e. claim_serves _ _ _ c.args.self.now c.args.outside.now c.in-Line.line c.claim.new.self c.in-Line.is c.args.imm c.in-Ok.channel.0 (slot_number c.args.d.0 c.args.b) c.in-Some.rights (with_next_place c.args.d.0 x c.args.self.now.parts) _
    (sym (two_held f.table.set c.args.self.now.parts.caps (caps_are h) (slot_number c.args.d.0 c.args.a) (slot_number c.args.d.0 c.args.b) c.look.result c.look-2.result c.look.ensures.value c.look-2.ensures.value (λ a b. claim_call c.args.imm (slot_number c.args.d.0 c.args.b) (with_next_place c.args.d.0 x c.args.self.now.parts) a)) ∙ c.in-Ok.ensures c.args.imm (slot_number c.args.d.0 c.args.b) (with_next_place c.args.d.0 x c.args.self.now.parts) used) (sym c.in-Some.ensures.rights) c.in-Some.ensures.claimed
    (moved_on h c.claim-2.new.self c.go_on.new.self c.go_on.ensures x e ∙ ap (λ set. record c.args.self.now { parts = record (with_next_place c.args.d.0 x c.args.self.now.parts) { caps = set } }) left)
