use Rattle.std.proofs.Common.{◌≡◌, ◌+◌, ◌≤◌, length}
use Rattle.dc_base.specs.TextWords.{lines_of}
use Rattle.dc_base.specs.ScriptText.{counted_from, lines_read}
use Rattle.dc_text.specs.Rest.{lines_left, most_left}
use Rattle.dc_script.specs.Texts.{said_from}
use Rattle.dc_script.proofs.texts.read_lines.Given as goal

-- what was found, and what the rest says behind it, is what the text says
abbrev pub invariant-loop-rest : goal.invariant-loop-rest
invariant-loop-rest g l = record {
  told : said_from (g.T.Row.line_read l.bounds) l.limit (g.F.Found.listed l.found) (l.number + 1) (lines_left l.rest) ≡ lines_read (g.T.Row.line_read l.bounds) l.limit (counted_from 1 (lines_of l.fn.text));
  few : length (g.F.Found.listed l.found) ≤ l.limit;
  room : l.number + most_left l.rest ≤ length l.fn.text + 1;
}

abbrev pub decreases-loop-rest : goal.decreases-loop-rest
decreases-loop-rest g l = most_left l.rest
