use Rattle.dc_base.specs.Openings.{blocks_opened}
use Rattle.dc_refine.proofs.Follow.{seen_agrees}
use Rattle.dc_refine.proofs.Opened.{opening_stands, opening_alone}
use Rattle.dc_refine.proofs.openings_stand.Goals as goal

pub returns-clause-stands : goal.returns-clause-stands
returns-clause-stands c = opening_stands

pub returns-clause-alone : goal.returns-clause-alone
returns-clause-alone c = opening_alone

pub returns-clause-agrees : goal.returns-clause-agrees
returns-clause-agrees c = λ s. seen_agrees s (blocks_opened s)
