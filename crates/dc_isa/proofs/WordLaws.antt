-- Words and their instructions, both ways.
use Rattle.std.specs.Prelude.{◌≡◌, ℕ, ◌<◌, ◌/◌, ◌%◌, ◌^◌, IsTrue, Some}
use Rattle.std.proofs.Common.{rules, arith}
use Rattle.dc_base.specs.declared.instructions.Instr.{Instr}
use Rattle.dc_base.specs.Instructions.{word, encode, is_proper, decode}
use Rattle.dc_base.proofs.WordLaws.{decode-encode}

pub decode_encode : (i : Instr) → IsTrue (is_proper i) → decode (encode i) ≡ Some i
decode_encode i h = decode-encode i (search (rules, h))

pub word_of_fields : (w : ℕ) → word (w / 2 ^ 24) ((w / 2 ^ 20) % 16) ((w / 2 ^ 16) % 16) (w % 2 ^ 16) ≡ w
word_of_fields w = omega arith

pub decoded_back : (w : ℕ) (i : Instr) → decode w ≡ Some i → IsTrue (is_proper i) × (encode i ≡ w)
unfolding decode
decoded_back w i h = search (rules, h)
