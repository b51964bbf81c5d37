use Rattle.std.proofs.Common.{refl, sym, ap, ◌∙◌, ◌+◌}
use Rattle.std.specs.Prelude.{is_some}
use Rattle.dc_base.specs.declared.instructions.Instr.TheVariants.{Out, Csend, Crecv, Bind, Give, Claim}
use Rattle.dc_base.specs.ControlBlocks.{ControlBlock}
use Rattle.dc_base.specs.Capabilities.{slot_number, is_used, is_send_end, is_recv_end, read_right, write_right}
use Rattle.dc_base.specs.Instructions.{is_proper}
use Rattle.dc_base.specs.Kernel.{call_of, with_next_place, with_end_and_frame, sends, receives, bind_call, give_call, claim_call, number_in, first_in, cap_in}
use Rattle.dc_base.specs.Parts.{words_at}
use Rattle.dc_base.specs.Serving.{need}
use Rattle.dc_exec.specs.Calls.{call_name}
use Rattle.dc_calls.proofs.CapsNeeded.{other_free, slots_in, used_where, two_held, as_told}
use Rattle.dc_calls.proofs.forms.Form.need.Goals as goal

-- the slots and the immediate

pub look-requires-clause-slot : goal.look-requires-clause-slot
unfolding is_proper call_name
look-requires-clause-slot g c = (slots_in c.args.instr.now (Csend c.in-Csend.a c.in-Csend.b c.in-Csend.imm) c.in-Csend.a c.in-Csend.b c.in-Csend.imm c.in-Csend.is refl c.requires.proper).0

pub look-requires-in-Csend-clause-slot : goal.look-requires-in-Csend-clause-slot
unfolding is_proper call_name
look-requires-in-Csend-clause-slot g c = (slots_in c.args.instr.now (Csend c.in-Csend.a c.in-Csend.b c.in-Csend.imm) c.in-Csend.a c.in-Csend.b c.in-Csend.imm c.in-Csend.is refl c.requires.proper).1.0

pub csend_need-requires-clause-imm : goal.csend_need-requires-clause-imm
unfolding is_proper call_name
csend_need-requires-clause-imm g c = (slots_in c.args.instr.now (Csend c.in-Csend.a c.in-Csend.b c.in-Csend.imm) c.in-Csend.a c.in-Csend.b c.in-Csend.imm c.in-Csend.is refl c.requires.proper).1.1

pub look-requires-in-Crecv-clause-slot : goal.look-requires-in-Crecv-clause-slot
unfolding is_proper call_name
look-requires-in-Crecv-clause-slot g c = (slots_in c.args.instr.now (Crecv c.in-Crecv.a c.in-Crecv.b c.in-Crecv.imm) c.in-Crecv.a c.in-Crecv.b c.in-Crecv.imm c.in-Crecv.is refl c.requires.proper).0

pub look-requires-in-Crecv-2-clause-slot : goal.look-requires-in-Crecv-2-clause-slot
unfolding is_proper call_name
look-requires-in-Crecv-2-clause-slot g c = (slots_in c.args.instr.now (Crecv c.in-Crecv.a c.in-Crecv.b c.in-Crecv.imm) c.in-Crecv.a c.in-Crecv.b c.in-Crecv.imm c.in-Crecv.is refl c.requires.proper).1.0

pub crecv_need-requires-clause-imm : goal.crecv_need-requires-clause-imm
unfolding is_proper call_name
crecv_need-requires-clause-imm g c = (slots_in c.args.instr.now (Crecv c.in-Crecv.a c.in-Crecv.b c.in-Crecv.imm) c.in-Crecv.a c.in-Crecv.b c.in-Crecv.imm c.in-Crecv.is refl c.requires.proper).1.1

pub look-requires-in-Bind-clause-slot : goal.look-requires-in-Bind-clause-slot
unfolding is_proper call_name
look-requires-in-Bind-clause-slot g c = (slots_in c.args.instr.now (Bind c.in-Bind.a c.in-Bind.b) c.in-Bind.a c.in-Bind.b 0 c.in-Bind.is refl c.requires.proper).0

pub look-requires-in-Bind-2-clause-slot : goal.look-requires-in-Bind-2-clause-slot
unfolding is_proper call_name
look-requires-in-Bind-2-clause-slot g c = (slots_in c.args.instr.now (Bind c.in-Bind.a c.in-Bind.b) c.in-Bind.a c.in-Bind.b 0 c.in-Bind.is refl c.requires.proper).1.0

pub look-requires-in-Give-clause-slot : goal.look-requires-in-Give-clause-slot
unfolding is_proper call_name
look-requires-in-Give-clause-slot g c = (slots_in c.args.instr.now (Give c.in-Give.a c.in-Give.b) c.in-Give.a c.in-Give.b 0 c.in-Give.is refl c.requires.proper).0

pub look-requires-in-Give-2-clause-slot : goal.look-requires-in-Give-2-clause-slot
unfolding is_proper call_name
look-requires-in-Give-2-clause-slot g c = (slots_in c.args.instr.now (Give c.in-Give.a c.in-Give.b) c.in-Give.a c.in-Give.b 0 c.in-Give.is refl c.requires.proper).1.0

pub look-requires-in-Claim-clause-slot : goal.look-requires-in-Claim-clause-slot
unfolding is_proper call_name
look-requires-in-Claim-clause-slot g c = (slots_in c.args.instr.now (Claim c.in-Claim.a c.in-Claim.b c.in-Claim.imm) c.in-Claim.a c.in-Claim.b c.in-Claim.imm c.in-Claim.is refl c.requires.proper).0

pub look-requires-in-Claim-2-clause-slot : goal.look-requires-in-Claim-2-clause-slot
unfolding is_proper call_name
look-requires-in-Claim-2-clause-slot g c = (slots_in c.args.instr.now (Claim c.in-Claim.a c.in-Claim.b c.in-Claim.imm) c.in-Claim.a c.in-Claim.b c.in-Claim.imm c.in-Claim.is refl c.requires.proper).1.0

-- what is needed

pub returns-in-Out : goal.returns-in-Out
unfolding need call_of
returns-in-Out g c = λ time x p e. as_told time c.args.d.0 x p c.args.instr.now (Out c.in-Out.a) c.in-Out.is

pub returns-in-Csend : goal.returns-in-Csend
unfolding need call_of
returns-in-Csend g c = λ time x p e. (let set = e ∙ ap (λ (y : ControlBlock). y.parts.caps) (sym c.self.view_is) in
    c.csend_need.ensures (words_at p.memory (first_in (cap_in c.args.d.0 p c.in-Csend.b) + c.in-Csend.imm)) (with_next_place c.args.d.0 x p)
    ∙ two_held c.self.inside.table.set p.caps set (slot_number c.args.d.0 c.in-Csend.a) (slot_number c.args.d.0 c.in-Csend.b) c.look.result c.look-in-Csend.result c.look.ensures.value c.look-in-Csend.ensures.value (λ a b. need (with_end_and_frame is_send_end write_right read_right c.in-Csend.imm a b (sends (number_in a) (words_at p.memory (first_in (cap_in c.args.d.0 p c.in-Csend.b) + c.in-Csend.imm)) (with_next_place c.args.d.0 x p))))
    ∙ as_told time c.args.d.0 x p c.args.instr.now (Csend c.in-Csend.a c.in-Csend.b c.in-Csend.imm) c.in-Csend.is)

pub returns-in-Crecv : goal.returns-in-Crecv
unfolding need call_of
returns-in-Crecv g c = λ time x p e. (let set = e ∙ ap (λ (y : ControlBlock). y.parts.caps) (sym c.self.view_is) in
    c.crecv_need.ensures (first_in (cap_in c.args.d.0 p c.in-Crecv.b) + c.in-Crecv.imm) (with_next_place c.args.d.0 x p)
    ∙ two_held c.self.inside.table.set p.caps set (slot_number c.args.d.0 c.in-Crecv.a) (slot_number c.args.d.0 c.in-Crecv.b) c.look-in-Crecv.result c.look-in-Crecv-2.result c.look-in-Crecv.ensures.value c.look-in-Crecv-2.ensures.value (λ a b. need (with_end_and_frame is_recv_end read_right write_right c.in-Crecv.imm a b (receives (number_in a) (first_in (cap_in c.args.d.0 p c.in-Crecv.b) + c.in-Crecv.imm) (with_next_place c.args.d.0 x p))))
    ∙ as_told time c.args.d.0 x p c.args.instr.now (Crecv c.in-Crecv.a c.in-Crecv.b c.in-Crecv.imm) c.in-Crecv.is)

pub returns-in-Bind : goal.returns-in-Bind
unfolding need call_of
returns-in-Bind g c = λ time x p e. (let set = e ∙ ap (λ (y : ControlBlock). y.parts.caps) (sym c.self.view_is) in
    c.bind_need.ensures (with_next_place c.args.d.0 x p)
    ∙ two_held c.self.inside.table.set p.caps set (slot_number c.args.d.0 c.in-Bind.a) (slot_number c.args.d.0 c.in-Bind.b) c.look-in-Bind.result c.look-in-Bind-2.result c.look-in-Bind.ensures.value c.look-in-Bind-2.ensures.value (λ a b. need (bind_call (with_next_place c.args.d.0 x p) a b))
    ∙ as_told time c.args.d.0 x p c.args.instr.now (Bind c.in-Bind.a c.in-Bind.b) c.in-Bind.is)

pub returns-in-Give : goal.returns-in-Give
unfolding need call_of
returns-in-Give g c = λ time x p e. (let set = e ∙ ap (λ (y : ControlBlock). y.parts.caps) (sym c.self.view_is) in
    c.give_need.ensures (with_next_place c.args.d.0 x p)
    ∙ two_held c.self.inside.table.set p.caps set (slot_number c.args.d.0 c.in-Give.a) (slot_number c.args.d.0 c.in-Give.b) c.look-in-Give.result c.look-in-Give-2.result c.look-in-Give.ensures.value c.look-in-Give-2.ensures.value (λ a b. need (give_call (with_next_place c.args.d.0 x p) a b))
    ∙ as_told time c.args.d.0 x p c.args.instr.now (Give c.in-Give.a c.in-Give.b) c.in-Give.is)

pub returns-in-Claim : goal.returns-in-Claim
unfolding need call_of
returns-in-Claim g c = λ time x p e. (let set = e ∙ ap (λ (y : ControlBlock). y.parts.caps) (sym c.self.view_is) in
    let slot = slot_number c.args.d.0 c.in-Claim.b in
    c.claim_need.ensures slot (with_next_place c.args.d.0 x p) (ap (λ caps. is_used caps slot) set ∙ used_where c.self.inside.table.set slot ∙ ap is_some (sym c.look-in-Claim-2.ensures.value) ∙ sym c.is_some.ensures)
    ∙ two_held c.self.inside.table.set p.caps set (slot_number c.args.d.0 c.in-Claim.a) slot c.look-in-Claim.result c.look-in-Claim-2.result c.look-in-Claim.ensures.value c.look-in-Claim-2.ensures.value (λ a b. need (claim_call c.in-Claim.imm slot (with_next_place c.args.d.0 x p) a))
    ∙ as_told time c.args.d.0 x p c.args.instr.now (Claim c.in-Claim.a c.in-Claim.b c.in-Claim.imm) c.in-Claim.is)

pub returns-in_default : goal.returns-in_default
returns-in_default g c = let o = c.in_default in λ time x p e. sym (other_free time c.args.d.0 x p c.args.instr.now (record { out = o.not-Out; csend = o.not-Csend; crecv = o.not-Crecv; bind = o.not-Bind; give = o.not-Give; claim = o.not-Claim }))
