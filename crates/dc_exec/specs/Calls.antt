-- Which instructions are kernel calls.
use Rattle.std.specs.Prelude.{Bool, ◌&&◌, Option, Some, None, is_some}
use Rattle.dc_base.specs.declared.instructions.Instr.{Instr}
use Rattle.dc_base.specs.declared.instructions.Instr.TheVariants.{Out, Yield, Send, Recv, Csend, Crecv, Wait, Arm, Copy, Retype, Delete, Revoke, Bind, Give}
use Rattle.dc_base.specs.declared.instructions.Instr.TheVariants.{Claim}
use Rattle.dc_base.specs.declared.calls.Op.{Op}
use Rattle.dc_base.specs.declared.calls.Op.TheVariants as op
use Rattle.dc_base.specs.Instructions.{is_proper}
use Rattle.dc_base.specs.Ahead.{AheadEnd, at_quantum, at_call}

-- the name of a kernel call; none for a plain instruction
unfoldable pub call_name : Instr → Option Op
call_name (Out a) = Some op.Out
call_name Yield = Some op.Yield
call_name (Send a b imm) = Some op.Send
call_name (Recv a b imm) = Some op.Recv
call_name (Csend a b imm) = Some op.Csend
call_name (Crecv a b imm) = Some op.Crecv
call_name (Wait a b) = Some op.Wait
call_name (Arm a b imm) = Some op.Arm
call_name (Copy a b imm) = Some op.Copy
call_name (Retype a b imm) = Some op.Retype
call_name (Delete a) = Some op.Delete
call_name (Revoke a) = Some op.Revoke
call_name (Bind a b) = Some op.Bind
call_name (Give a b) = Some op.Give
call_name (Claim a b imm) = Some op.Claim
call_name _ = None

-- the plain part of a slice ends at such a call
abbrev pub end_at : Option Op → Instr → AheadEnd
end_at None i = at_quantum
end_at (Some o) i = at_call o i

-- the call at a place ends the plain part of a slice
abbrev pub end_at_call : Instr → AheadEnd
end_at_call i = end_at (call_name i) i

-- the same, where there may be no call at the place
abbrev pub end_at_place : Option Instr → AheadEnd
end_at_place None = at_quantum
end_at_place (Some i) = end_at_call i

-- a kernel call with its fields in their ranges
abbrev pub is_proper_call : Instr → Bool
is_proper_call i = is_some (call_name i) && is_proper i
