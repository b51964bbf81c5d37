-- Texts of code, assembled.
use Rattle.std.specs.Prelude.{◌≡◌, ℕ, List, [], ◌∷◌, map, refl, replicate, Ok, Err}
use Prim.Native.String.{String}
use Rattle.dc_base.specs.declared.faults.AsmKind.{AsmKind}
use Rattle.dc_base.specs.declared.faults.AsmKind.TheVariants as fault
use Rattle.dc_base.specs.declared.faults.AsmFault.TheVariants.{Bad}
use Rattle.dc_base.specs.ProgramText.{program_of}
use Rattle.dc_base.specs.Generated.{code_of}
use Rattle.dc_rows.specs.Computed.{assembled_code}
use Rattle.dc_rows.specs.Texts as texts

-- a text of code by its lines, and its words
record Row : Type 0 where
  lines : List String
  words : List ℕ

abbrev row : List String → List ℕ → Row
row lines words = record { lines = lines; words = words }

abbrev rows : List Row
rows =
    row ("li r0 7" ∷ "out r0" ∷ "halt" ∷ []) (16777223 ∷ 536870912 ∷ 335544320 ∷ [])
    ∷ row ("jmp 0" ∷ "add r0 r1" ∷ "copy s2 s3 7" ∷ []) (251658240 ∷ 67174400 ∷ 673382407 ∷ [])
    ∷ row ("give s2 s0" ∷ "claim s0 s2 0" ∷ []) (757071872 ∷ 771883008 ∷ [])
    ∷ row (" # only" ∷ "a_1:" ∷ "\tjmp @a_1 # back" ∷ ".word 4294967295" ∷ "b:" ∷ "beq r1 r7 @b" ∷ []) (0x0F000000 ∷ 4294967295 ∷ 0x0C170002 ∷ [])
    ∷ row [] []
    ∷ row ("x:" ∷ []) []
    ∷ []

are_assembled : map (λ (r : Row). program_of (texts.lines r.lines)) rows ≡ map (λ (r : Row). Ok r.words) rows
unfolding assembled_code
are_assembled = refl

-- a text of code that is refused, the line of its first fault, and why
record Refused : Type 0 where
  lines : List String
  number : ℕ
  kind : AsmKind

abbrev refused : List String → ℕ → AsmKind → Refused
refused lines number kind = record { lines = lines; number = number; kind = kind }

abbrev bad_rows : List Refused
bad_rows =
    refused ("li r9 1" ∷ []) 1 fault.BadOperand
    ∷ refused ("jmp @x" ∷ []) 1 fault.NoLabel
    ∷ refused ("foo" ∷ []) 1 fault.UnknownName
    ∷ refused ("li r0" ∷ []) 1 fault.BadOperand
    ∷ refused ("li r0 65536" ∷ []) 1 fault.BadNumber
    ∷ refused ("li r0 @x" ∷ []) 1 fault.BadNumber
    ∷ refused ("li r00 1" ∷ []) 1 fault.BadOperand
    ∷ refused ("li s0 1" ∷ []) 1 fault.BadOperand
    ∷ refused ("copy s0 s1 8" ∷ []) 1 fault.BadNumber
    ∷ refused ("copy s0 s1 256" ∷ []) 1 fault.BadNumber
    ∷ refused ("retype s0 s1 2" ∷ []) 1 fault.BadNumber
    ∷ refused ("a:" ∷ "nop" ∷ "a:" ∷ []) 3 fault.TwiceLabel
    ∷ refused ("A:" ∷ []) 1 fault.BadOperand
    ∷ refused (":" ∷ []) 1 fault.BadOperand
    ∷ refused ("x: nop" ∷ []) 1 fault.UnknownName
    ∷ refused ("aaaaaaaaaaaaaaaaaaaaaaaaaaaaaaaaa:" ∷ []) 1 fault.BadOperand
    ∷ refused ("out s0" ∷ "bar" ∷ []) 1 fault.BadOperand
    ∷ refused ("nop 1" ∷ []) 1 fault.BadOperand
    ∷ refused (".word @x" ∷ []) 1 fault.BadNumber
    ∷ refused ("jmp @" ∷ []) 1 fault.NoLabel
    ∷ refused ("send s16 s0 0" ∷ []) 1 fault.BadOperand
    ∷ refused ("li r9 70000" ∷ []) 1 fault.BadOperand
    ∷ refused ("li r1 00000000001" ∷ []) 1 fault.BadNumber
    ∷ []

are_refused : map (λ (r : Refused). program_of (texts.lines r.lines)) bad_rows ≡ map (λ (r : Refused). Err (Bad r.number r.kind)) bad_rows
unfolding assembled_code
are_refused = refl

one_too_many : program_of (texts.lines (replicate 1025 "nop")) ≡ Err (Bad 1025 fault.TooLong)
unfolding assembled_code
one_too_many = refl

-- the code of three blocks of the generated input
generated_0 : program_of (texts.lines (
    "li r1 1" ∷ "csend s0 s2 0" ∷ "csend s0 s2 0" ∷ "again:" ∷ "crecv s1 s2 0" ∷ "ld r0 r2 0" ∷ "add r0 r1" ∷ "st r0 r2 0" ∷ "out r0" ∷ "csend s0 s2 0"
    ∷ "jmp @again" ∷ []))
    ≡ Ok (code_of 0)
unfolding assembled_code
generated_0 = refl

generated_1 : program_of (texts.lines (
    "li r1 2" ∷ "again:" ∷ "crecv s1 s2 0" ∷ "ld r0 r2 0" ∷ "add r0 r1" ∷ "st r0 r2 0" ∷ "out r0" ∷ "csend s0 s2 0" ∷ "jmp @again" ∷ []))
    ≡ Ok (code_of 1)
unfolding assembled_code
generated_1 = refl

generated_15 : program_of (texts.lines (
    "li r1 16" ∷ "again:" ∷ "crecv s1 s2 0" ∷ "ld r0 r2 0" ∷ "add r0 r1" ∷ "st r0 r2 0" ∷ "out r0" ∷ "csend s0 s2 0" ∷ "jmp @again" ∷ []))
    ≡ Ok (code_of 15)
unfolding assembled_code
generated_15 = refl
