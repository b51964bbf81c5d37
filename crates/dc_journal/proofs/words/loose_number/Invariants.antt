use Rattle.std.proofs.Common.{◌≡◌, ◌≤◌, take, true}
use Rattle.std.specs.List.{list_all}
use Rattle.std.specs.Char.{is_ascii_digit}
use Rattle.std.specs.Str.Parse.{digits_value}
use Rattle.dc_journal.proofs.words.loose_number.Given as goal

-- the bytes before are digits, and write the number so far
abbrev pub invariant-loop-at : goal.invariant-loop-at
invariant-loop-at l = record {
  digits : list_all is_ascii_digit (take l.at l.word) ≡ true;
  value : l.n ≡ digits_value 10 (take l.at l.word);
  within : l.n ≤ l.most;
}
