use Rattle.dc_sound.proofs.EntryKinds.{core_step-kind}
use Rattle.dc_sound.proofs.Mailboxes.{mailboxes_kept}
use Rattle.dc_sound.proofs.mailboxes_follow.Goals as goal

pub returns : goal.returns
returns c = λ s polls who a chs e g p r. mailboxes_kept s chs e p r.posts.command (core_step-kind s polls who a chs e g)
