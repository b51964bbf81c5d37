use Rattle.dc_spelling.proofs.Deciding.{one_told}
use Rattle.dc_spelling.proofs.a_text_tells_one.Goals as goal

pub returns : goal.returns
returns c = one_told
