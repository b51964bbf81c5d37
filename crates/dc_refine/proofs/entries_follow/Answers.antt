use Rattle.dc_refine.proofs.Turns.{entries_all}
use Rattle.dc_refine.proofs.entries_follow.Goals as goal

pub returns : goal.returns
returns c = λ terms lines s t n polls who a changes e. entries_all terms lines s n t polls who a changes e
