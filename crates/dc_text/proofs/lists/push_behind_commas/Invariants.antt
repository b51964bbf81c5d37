use Rattle.std.proofs.Common.{◌≡◌, ◌+◌, ◌*◌, ◌≤◌, ◌++◌, map, take}
use Rattle.arrayvec.specs.ArrayString.{array_string_len}
use Rattle.dc_text.specs.Lines.{behind_commas}
use Rattle.dc_text.proofs.lists.push_behind_commas.Given as goal

-- the numbers passed are added
abbrev pub invariant-loop-item : goal.invariant-loop-item
invariant-loop-item g l = record {
  added : l.line.bytes ≡ l.initial.line.bytes ++ behind_commas (map g.T.Numbered.number (take l.item-index l.items));
  len : array_string_len l.line ≤ array_string_len l.initial.line + 11 * l.item-index;
}
