use Rattle.std.proofs.Common.{◌≡◌, ℕ, List, ◌+◌, ◌≤◌, length}
use Rattle.dc_base.specs.ProgramText.{place_of, labels_from, statements}
use Rattle.dc_text.specs.Rest.{most_left}
use Rattle.dc_isa.specs.Labels.{label_list}
use Rattle.dc_isa.specs.Assembly.{or_else, statements_left}
use Rattle.dc_isa.proofs.assembler.labels_of.Given as goal

-- the labels noted, and those of the rest, are the text's
abbrev pub invariant-loop-rest : goal.invariant-loop-rest
invariant-loop-rest l = record {
  told : (q : List ℕ) → or_else (place_of (label_list l.labels) q) (place_of (labels_from l.place (statements_left l.rest)) q) ≡ place_of (labels_from 0 (statements l.fn.text)) q;
  room : l.place + most_left l.rest ≤ length l.fn.text + 1;
}

abbrev pub decreases-loop-rest : goal.decreases-loop-rest
decreases-loop-rest l = most_left l.rest
