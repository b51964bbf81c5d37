use Rattle.std.proofs.Common.{◌≡◌, refl, sym, subst}
use Rattle.dc_base.specs.declared.instructions.Instr.{Instr}
use Rattle.dc_base.specs.declared.instructions.Instr.TheVariants.{Out, Yield, Send, Recv, Csend, Crecv, Wait, Arm, Copy, Retype, Delete, Revoke, Bind, Give, Claim}
use Rattle.dc_base.specs.Effects.{Context}
use Rattle.dc_base.specs.Kernel.{call_of}
use Rattle.dc_base.specs.Serving.{serve}
use Rattle.dc_calls.specs.declared.answers.Answer.TheVariants as answer
use Rattle.dc_calls.specs.Outsides.{outside_seen}
use Rattle.dc_calls.specs.Serves.{Serves}
use Rattle.dc_calls.proofs.forms.Form.call.Goals as goal

pub returns-in-Out-clause-served : goal.returns-in-Out-clause-served
returns-in-Out-clause-served g c = λ x there. subst (λ i. Serves c.args.core.0 c.args.block.0 (call_of c.args.time c.args.d.0 x i c.args.self.now.parts) c.args.self.now c.print.new.self (outside_seen c.args.outside.now) (outside_seen c.print.new.outside) c.print.result) (sym c.in-Out.is) (c.print.ensures.served c.args.core.0 c.args.block.0 c.args.time x there)

pub returns-in-Yield-clause-served : goal.returns-in-Yield-clause-served
returns-in-Yield-clause-served g c = λ x there. subst (λ i. Serves c.args.core.0 c.args.block.0 (call_of c.args.time c.args.d.0 x i c.args.self.now.parts) c.args.self.now c.give_way.new.self (outside_seen c.args.outside.now) (outside_seen c.args.outside.now) c.give_way.result) (sym c.in-Yield.is) (c.give_way.ensures.served c.args.core.0 c.args.block.0 c.args.time (outside_seen c.args.outside.now) x there)

pub returns-in-Send-clause-served : goal.returns-in-Send-clause-served
returns-in-Send-clause-served g c = λ x there. subst (λ i. Serves c.args.core.0 c.args.block.0 (call_of c.args.time c.args.d.0 x i c.args.self.now.parts) c.args.self.now c.send.new.self (outside_seen c.args.outside.now) (outside_seen c.args.outside.now) c.send.result) (sym c.in-Send.is) (c.send.ensures.served c.args.core.0 c.args.block.0 c.args.time (outside_seen c.args.outside.now) x there)

pub returns-in-Recv-clause-served : goal.returns-in-Recv-clause-served
returns-in-Recv-clause-served g c = λ x there. subst (λ i. Serves c.args.core.0 c.args.block.0 (call_of c.args.time c.args.d.0 x i c.args.self.now.parts) c.args.self.now c.recv.new.self (outside_seen c.args.outside.now) (outside_seen c.args.outside.now) c.recv.result) (sym c.in-Recv.is) (c.recv.ensures.served c.args.core.0 c.args.block.0 c.args.time (outside_seen c.args.outside.now) x there)

pub returns-in-Csend-clause-served : goal.returns-in-Csend-clause-served
returns-in-Csend-clause-served g c = λ x there. subst (λ i. Serves c.args.core.0 c.args.block.0 (call_of c.args.time c.args.d.0 x i c.args.self.now.parts) c.args.self.now c.csend.new.self (outside_seen c.args.outside.now) (outside_seen c.csend.new.outside) c.csend.result) (sym c.in-Csend.is) (c.csend.ensures.served c.args.core.0 c.args.block.0 c.args.time x there)

pub returns-in-Crecv-clause-served : goal.returns-in-Crecv-clause-served
returns-in-Crecv-clause-served g c = λ x there. subst (λ i. Serves c.args.core.0 c.args.block.0 (call_of c.args.time c.args.d.0 x i c.args.self.now.parts) c.args.self.now c.crecv.new.self (outside_seen c.args.outside.now) (outside_seen c.crecv.new.outside) c.crecv.result) (sym c.in-Crecv.is) (c.crecv.ensures.served c.args.core.0 c.args.block.0 c.args.time x there)

pub returns-in-Wait-clause-served : goal.returns-in-Wait-clause-served
returns-in-Wait-clause-served g c = λ x there. subst (λ i. Serves c.args.core.0 c.args.block.0 (call_of c.args.time c.args.d.0 x i c.args.self.now.parts) c.args.self.now c.wait.new.self (outside_seen c.args.outside.now) (outside_seen c.args.outside.now) c.wait.result) (sym c.in-Wait.is) (c.wait.ensures.served c.args.core.0 c.args.block.0 c.args.time (outside_seen c.args.outside.now) x there)

pub returns-in-Arm-clause-served : goal.returns-in-Arm-clause-served
returns-in-Arm-clause-served g c = λ x there. subst (λ i. Serves c.args.core.0 c.args.block.0 (call_of c.args.time c.args.d.0 x i c.args.self.now.parts) c.args.self.now c.arm.new.self (outside_seen c.args.outside.now) (outside_seen c.args.outside.now) c.arm.result) (sym c.in-Arm.is) (c.arm.ensures.served c.args.core.0 c.args.block.0 (outside_seen c.args.outside.now) x there)

pub returns-in-Copy-clause-served : goal.returns-in-Copy-clause-served
returns-in-Copy-clause-served g c = λ x there. subst (λ i. Serves c.args.core.0 c.args.block.0 (call_of c.args.time c.args.d.0 x i c.args.self.now.parts) c.args.self.now c.copy.new.self (outside_seen c.args.outside.now) (outside_seen c.args.outside.now) c.copy.result) (sym c.in-Copy.is) (c.copy.ensures.served c.args.core.0 c.args.block.0 c.args.time (outside_seen c.args.outside.now) x there)

pub returns-in-Retype-clause-served : goal.returns-in-Retype-clause-served
returns-in-Retype-clause-served g c = λ x there. subst (λ i. Serves c.args.core.0 c.args.block.0 (call_of c.args.time c.args.d.0 x i c.args.self.now.parts) c.args.self.now c.retype.new.self (outside_seen c.args.outside.now) (outside_seen c.args.outside.now) c.retype.result) (sym c.in-Retype.is) (c.retype.ensures.served c.args.core.0 c.args.block.0 c.args.time (outside_seen c.args.outside.now) x there)

pub returns-in-Delete-clause-served : goal.returns-in-Delete-clause-served
returns-in-Delete-clause-served g c = λ x there. subst (λ i. Serves c.args.core.0 c.args.block.0 (call_of c.args.time c.args.d.0 x i c.args.self.now.parts) c.args.self.now c.delete.new.self (outside_seen c.args.outside.now) (outside_seen c.args.outside.now) c.delete.result) (sym c.in-Delete.is) (c.delete.ensures.served c.args.core.0 c.args.block.0 c.args.time (outside_seen c.args.outside.now) x there)

pub returns-in-Revoke-clause-served : goal.returns-in-Revoke-clause-served
returns-in-Revoke-clause-served g c = λ x there. subst (λ i. Serves c.args.core.0 c.args.block.0 (call_of c.args.time c.args.d.0 x i c.args.self.now.parts) c.args.self.now c.revoke.new.self (outside_seen c.args.outside.now) (outside_seen c.args.outside.now) c.revoke.result) (sym c.in-Revoke.is) (c.revoke.ensures.served c.args.core.0 c.args.block.0 c.args.time (outside_seen c.args.outside.now) x there)

pub returns-in-Bind-clause-served : goal.returns-in-Bind-clause-served
returns-in-Bind-clause-served g c = λ x there. subst (λ i. Serves c.args.core.0 c.args.block.0 (call_of c.args.time c.args.d.0 x i c.args.self.now.parts) c.args.self.now c.bind.new.self (outside_seen c.args.outside.now) (outside_seen c.bind.new.outside) c.bind.result) (sym c.in-Bind.is) (c.bind.ensures.served c.args.time x there)

pub returns-in-Give-clause-served : goal.returns-in-Give-clause-served
returns-in-Give-clause-served g c = λ x there. subst (λ i. Serves c.args.core.0 c.args.block.0 (call_of c.args.time c.args.d.0 x i c.args.self.now.parts) c.args.self.now c.give.new.self (outside_seen c.args.outside.now) (outside_seen c.give.new.outside) c.give.result) (sym c.in-Give.is) (c.give.ensures.served c.args.core.0 c.args.block.0 c.args.time x there)

pub returns-in-Claim-clause-served : goal.returns-in-Claim-clause-served
returns-in-Claim-clause-served g c = λ x there. subst (λ i. Serves c.args.core.0 c.args.block.0 (call_of c.args.time c.args.d.0 x i c.args.self.now.parts) c.args.self.now c.claim.new.self (outside_seen c.args.outside.now) (outside_seen c.claim.new.outside) c.claim.result) (sym c.in-Claim.is) (c.claim.ensures.served c.args.core.0 c.args.block.0 c.args.time x there)

pub returns-in_default : goal.returns-in_default
unfolding call_of serve
returns-in_default g c = record { served = λ x there. by_instr x c.args.instr.now refl; kind = λ n f. f }
  where
    by_instr : (x : Context) (i : Instr) → c.args.instr.now ≡ i → Serves c.args.core.0 c.args.block.0 (call_of c.args.time c.args.d.0 x i c.args.self.now.parts) c.args.self.now c.args.self.now (outside_seen c.args.outside.now) (outside_seen c.args.outside.now) (answer.Fault 4)
    by_instr x (Out a) e = absurd (c.in_default.not-Out a e)
    by_instr x Yield e = absurd (c.in_default.not-Yield e)
    by_instr x (Send a b imm) e = absurd (c.in_default.not-Send a b imm e)
    by_instr x (Recv a b imm) e = absurd (c.in_default.not-Recv a b imm e)
    by_instr x (Csend a b imm) e = absurd (c.in_default.not-Csend a b imm e)
    by_instr x (Crecv a b imm) e = absurd (c.in_default.not-Crecv a b imm e)
    by_instr x (Wait a b) e = absurd (c.in_default.not-Wait a b e)
    by_instr x (Arm a b imm) e = absurd (c.in_default.not-Arm a b imm e)
    by_instr x (Copy a b imm) e = absurd (c.in_default.not-Copy a b imm e)
    by_instr x (Retype a b imm) e = absurd (c.in_default.not-Retype a b imm e)
    by_instr x (Delete a) e = absurd (c.in_default.not-Delete a e)
    by_instr x (Revoke a) e = absurd (c.in_default.not-Revoke a e)
    by_instr x (Bind a b) e = absurd (c.in_default.not-Bind a b e)
    by_instr x (Give a b) e = absurd (c.in_default.not-Give a b e)
    by_instr x (Claim a b imm) e = absurd (c.in_default.not-Claim a b imm e)
    by_instr x i e = record { answer = refl; rest = refl; kept = (refl, refl) }
