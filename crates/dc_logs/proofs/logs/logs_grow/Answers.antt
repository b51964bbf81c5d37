use Rattle.std.proofs.Common.{length, refl}
use Rattle.dc_logs.specs.Marks.{ticket_no}
use Rattle.dc_logs.proofs.ActorLogs.{log_longer}
use Rattle.dc_logs.proofs.logs.logs_grow.Goals as goal

pub returns-clause-entry : goal.returns-clause-entry
returns-clause-entry c = λ a xs log e is. log_longer a xs log (record { ticket = ticket_no (length xs); entry = e }) refl is

pub returns-clause-logged : goal.returns-clause-logged
returns-clause-logged c = log_longer
