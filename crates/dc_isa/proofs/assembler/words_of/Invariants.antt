use Rattle.std.proofs.Common.{◌≡◌, [], ◌+◌, ◌≤◌, length, vec_len}
use Rattle.dc_base.specs.ProgramText.{words_from, statements}
use Rattle.dc_text.specs.Rest.{most_left, joined}
use Rattle.dc_isa.specs.Labels.{label_list, names, capped}
use Rattle.dc_isa.specs.Assembly.{statements_left}
use Rattle.dc_isa.proofs.assembler.words_of.Given as goal

-- the words added, and those of the rest, are the text's
abbrev pub invariant-loop-rest : goal.invariant-loop-rest
invariant-loop-rest l = record {
  told : joined l.code.items (words_from (capped (label_list l.labels)) (l.line + 1) (length l.code.items) (names l.above) (statements_left l.rest)) ≡ words_from (capped (label_list l.labels)) 1 0 [] (statements l.fn.text);
  room : l.line + most_left l.rest ≤ length l.fn.text + 1;
  short : vec_len l.code ≤ 1024;
}

abbrev pub decreases-loop-rest : goal.decreases-loop-rest
decreases-loop-rest l = most_left l.rest
