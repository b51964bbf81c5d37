use Rattle.std.proofs.Common.{◌≡◌, drop}
use Rattle.std.specs.Prelude.{find, bytes_eq}
use Rattle.dc_base.specs.EntryText.{op_word}
use Rattle.dc_journal.proofs.ends.find_op.Given as goal

-- of the calls before none has the name
abbrev pub invariant-loop-op : goal.invariant-loop-op
invariant-loop-op l = find (λ op. bytes_eq (op_word op) l.word) (drop l.op-index l.ops) ≡ find (λ op. bytes_eq (op_word op) l.word) l.ops
