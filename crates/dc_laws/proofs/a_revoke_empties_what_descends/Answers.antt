use Rattle.dc_laws.proofs.Revoking.{emptied, untouched}
use Rattle.dc_laws.proofs.a_revoke_empties_what_descends.Goals as goal

pub returns-clause-emptied : goal.returns-clause-emptied
returns-clause-emptied c = λ x has s y d. emptied x.parts.caps has.ascending s y d

pub returns-clause-kept : goal.returns-clause-kept
returns-clause-kept c = λ x has s y never. untouched x.parts.caps has.ascending s y never
