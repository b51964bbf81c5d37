use Rattle.std.proofs.Common.{rules, ◌≡◌, ◌+◌, ◌-◌, ◌*◌, true, get_or, take, arith}
use Rattle.std.specs.Char.{is_ascii_digit}
use Rattle.std.specs.Int.{IsInRange}
use Rattle.std.specs.Str.Parse.{digits_value}
use Rattle.dc_journal.proofs.words.loose_number.Goals as goal
use Rattle.dc_text.proofs.Numbers.{digits_more, value_more}
use Rattle.dc_journal.proofs.Numbers.{too_great}

pub returns-then-n-most-clause-number : goal.returns-then-n-most-clause-number
returns-then-n-most-clause-number c =
    let digit : is_ascii_digit (get_or c.args.word.now c.loop-at.at 0) ≡ true = search rules in
    let range : IsInRange 48 57 (get_or c.args.word.now c.loop-at.at 0) = grind (arith, digit) in
    let value : c.loop-at.n * 10 + (get_or c.args.word.now c.loop-at.at 0 - 48) ≡ digits_value 10 (take (c.loop-at.at + 1) c.args.word.now) = value_more c.args.word.now c.loop-at.at c.loop-at.n c.loop-at-test.true range c.loop-at.invariant.value in
    too_great c.args.most c.args.word.now (c.loop-at.at + 1) _ value c.if-n-most.true

pub loop-at-preserved : goal.loop-at-preserved
loop-at-preserved c =
    let digit : is_ascii_digit (get_or c.args.word.now c.loop-at.at 0) ≡ true = search rules in
    let range : IsInRange 48 57 (get_or c.args.word.now c.loop-at.at 0) = grind (arith, digit) in
    record {
      digits = digits_more c.args.word.now c.loop-at.at c.loop-at-test.true digit c.loop-at.invariant.digits;
      value = value_more c.args.word.now c.loop-at.at c.loop-at.n c.loop-at-test.true range c.loop-at.invariant.value;
      within = omega arith;
    }
