use Rattle.std.proofs.Common.{ap, ◌∙◌, arith, length, length-append, decimal}
use Rattle.dc_text.proofs.Digits.{len_32}
use Rattle.dc_text.proofs.lists.push_behind_comma.Goals as goal

pub returns-clause-len : goal.returns-clause-len
returns-clause-len c =
    omega (arith, ap length c.push_digits.ensures ∙ length-append c.push_str.new.self.bytes (decimal c.args.n), len_32 c.args.n (omega arith), c.push_str.ensures.len)
