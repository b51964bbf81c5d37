-- What is seen ahead by one more instruction.
use Rattle.std.proofs.Common.{◌≡◌, ℕ, suc, ◌+◌, ◌-◌, ◌<◌, List, refl, ap, ◌∙◌, sym, arith}
use Rattle.dc_base.specs.declared.calls.Op.{Op}
use Rattle.dc_base.specs.declared.instructions.Instr.{Instr}
use Rattle.dc_base.specs.Effects.{Context, Move, goes, halts, traps, calls, act}
use Rattle.dc_base.specs.Ahead.{Ahead, at_halt, at_trap, at_call, ahead, ahead_from, one_more}

-- what was seen ahead after some instructions
abbrev pub forward : ℕ → Ahead → Ahead
forward n a = record a { ran = n + a.ran }

forward-one : (i : ℕ) (a : Ahead) → forward i (one_more a) ≡ forward (i + 1) a
forward-one i a = let e : i + (a.ran + 1) ≡ i + 1 + a.ran = omega arith in ap (λ n. record a { ran = n }) e

module _ (time : ℕ) (code : List ℕ) (q i : ℕ) (more : i < q) (c : Context) (memory : List ℕ) where
  one : q - i ≡ suc (q - (i + 1))
  one = omega arith

  -- seen ahead by one more instruction
  ahead-more : ahead time code (q - i) c memory ≡ ahead_from (ahead time code (q - (i + 1))) c memory (act time code c memory)
  ahead-more = rw one refl

  module _ (all : Ahead) (told : forward i (ahead time code (q - i) c memory) ≡ all) where
    pub forward-stops : (m : Move) → act time code c memory ≡ m → forward i (ahead_from (ahead time code (q - (i + 1))) c memory m) ≡ all
    forward-stops m e = sym (ap (λ m. forward i (ahead_from (ahead time code (q - (i + 1))) c memory m)) e) ∙ sym (ap (forward i) ahead-more) ∙ told

    pub forward-goes : (c' : Context) (memory' : List ℕ) → act time code c memory ≡ goes c' memory' → forward (i + 1) (ahead time code (q - (i + 1)) c' memory') ≡ all
    forward-goes c' memory' e = sym (forward-one i _) ∙ forward-stops (goes c' memory') e

    pub forward-halts : act time code c memory ≡ halts → record { context = c; memory = memory; ran = i + 1; end = at_halt } ≡ all
    forward-halts e = forward-stops halts e

    pub forward-traps : (x : ℕ) → act time code c memory ≡ traps x → record { context = c; memory = memory; ran = i; end = at_trap x } ≡ all
    forward-traps x e = let n : i ≡ i + 0 = omega arith in ap (λ n. record { context = c; memory = memory; ran = n; end = at_trap x }) n ∙ forward-stops (traps x) e

    pub forward-calls : (o : Op) (instr : Instr) → act time code c memory ≡ calls o instr → record { context = c; memory = memory; ran = i; end = at_call o instr } ≡ all
    forward-calls o instr e = let n : i ≡ i + 0 = omega arith in ap (λ n. record { context = c; memory = memory; ran = n; end = at_call o instr }) n ∙ forward-stops (calls o instr) e
