-- A word that has an instruction is that instruction's word.
use Rattle.std.proofs.Common.{◌≡◌, ℕ, Bool, true, false, Option, Some, None, refl, ap, ◌∙◌, sym, arith}
use Rattle.std.specs.Prelude.{◌==◌, ◌&&◌, if◌then◌else◌}
use Rattle.dc_base.specs.declared.instructions.Instr.{Instr}
use Rattle.dc_base.specs.Instructions.{encode, is_proper, if_word, decode}

numbers : (n m : ℕ) → n == m ≡ true → n ≡ m
numbers n m h = grind arith

-- its fields are proper, and this is its word
abbrev pub IsOfWord : ℕ → Instr → Type 0
IsOfWord w i = (is_proper i ≡ true) × (encode i ≡ w)

tested : (w : ℕ) (j i : Instr) (p q : Bool) → is_proper j ≡ p → (encode j == w) ≡ q → (if p && q then Some j else None) ≡ Some i → IsOfWord w i
tested w j i true true hp hq g =
    let same : j ≡ i = cc in
    (sym (ap is_proper same) ∙ hp, sym (ap encode same) ∙ numbers (encode j) w hq)
tested w j i true false hp hq g = cc
tested w j i false q hp hq g = cc

found : (w : ℕ) (o : Option Instr) (i : Instr) → if_word w o ≡ Some i → IsOfWord w i
found w None i g = cc
found w (Some j) i g = tested w j i (is_proper j) (encode j == w) refl refl g

pub decode-some : (w : ℕ) (i : Instr) → decode w ≡ Some i → IsOfWord w i
unfolding decode
decode-some w i g = found w _ i g
