use Rattle.dc_base.proofs.CodeLaws.{decode-some}
use Rattle.dc_laws.proofs.instructions_are_encoded.Goals as goal

pub returns-clause-word : goal.returns-clause-word
returns-clause-word c = λ w i h. (decode-some w i h).1

pub returns-clause-proper : goal.returns-clause-proper
returns-clause-proper c = λ w i h. (decode-some w i h).0
