use Rattle.dc_sound.proofs.EntryKinds.{core_step-kind}
use Rattle.dc_sound.proofs.PostsKept.{posts_kept}
use Rattle.dc_sound.proofs.posts_fit_on.Goals as goal

pub returns : goal.returns
returns c = λ s polls who a changes e g p placed follow form registered settled. posts_kept s changes e placed follow form registered settled p (core_step-kind s polls who a changes e g)
