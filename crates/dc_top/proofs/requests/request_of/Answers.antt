use Rattle.std.proofs.Common.{arith, string_bytes}
use Rattle.dc_top.proofs.Requesting.{of_few, of_many}
use Rattle.dc_top.proofs.requests.request_of.Goals as goal

pub returns-in-empty : goal.returns-in-empty
returns-in-empty c = of_few string_bytes c.args.words.now (omega (arith, c.in-empty.len_below))

pub returns-in-len1 : goal.returns-in-len1
returns-in-len1 c = of_few string_bytes c.args.words.now (omega (arith, c.in-len1.len_below))

pub returns-in_default : goal.returns-in_default
returns-in_default c = of_many string_bytes c.args.words.now (omega (arith, c.in_default.len_at_least))
