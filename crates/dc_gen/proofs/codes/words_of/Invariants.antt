use Rattle.std.proofs.Common.{◌≡◌, map, take}
use Rattle.dc_base.specs.Instructions.{encode}
use Rattle.dc_gen.proofs.codes.words_of.Given as goal

abbrev pub invariant-loop-instr : goal.invariant-loop-instr
invariant-loop-instr l = l.words ≡ map encode (take l.instr-index l.code)
