-- What the operations of the code stand for.
use Rattle.std.specs.Prelude.{Bool, nat_lt, ℕ, ◌+◌, ◌-◌, ◌*◌, ◌^◌, List, [], ◌∷◌, Option, map, find, bytes_eq}
use Rattle.dc_base.specs.Operations as spec
use Rattle.dc_base.specs.Operations.{operations}
use Rattle.dc_isa.specs.declared.operations.Operand.{Operand}
use Rattle.dc_isa.specs.declared.operations.Operand.TheVariants as operand
use Rattle.dc_isa.specs.declared.operations.Operation.{Operation}

abbrev pub operand_seen : Operand → spec.Operand
operand_seen operand.RegisterA = spec.register_a
operand_seen operand.RegisterB = spec.register_b
operand_seen operand.SlotA = spec.slot_a
operand_seen operand.SlotB = spec.slot_b
operand_seen operand.Immediate = spec.immediate
operand_seen operand.Target = spec.target
operand_seen operand.Grant = spec.grant
operand_seen operand.Made = spec.made
operand_seen operand.Whole = spec.whole

abbrev pub operation_seen : Operation → spec.Operation
operation_seen o = record { name = o.name.now; number = o.number; operands = map operand_seen o.operands.now }

-- the operation of a name
abbrev pub named : List ℕ → Option spec.Operation
named name = find (λ (o : spec.Operation). bytes_eq o.name name) operations

-- an operand's number is below this
abbrev pub limit : spec.Operand → ℕ
limit spec.register_a = 8
limit spec.register_b = 8
limit spec.slot_a = 16
limit spec.slot_b = 16
limit spec.immediate = 2 ^ 16
limit spec.target = 2 ^ 16
limit spec.grant = 256
limit spec.made = 2
limit spec.whole = 2 ^ 32

-- the most that the operands' part of a word can be
abbrev pub most : List spec.Operand → ℕ
most [] = 0
most (o ∷ os) = (limit o - 1) * spec.weight o + most os

-- the operation's word fits 32 bits
abbrev pub fits : spec.Operation → Bool
fits o = nat_lt (o.number * 2 ^ 24 + most o.operands) (2 ^ 32)
