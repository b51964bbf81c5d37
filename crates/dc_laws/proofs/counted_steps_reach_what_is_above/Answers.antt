use Rattle.dc_laws.proofs.Descents.{reached_descends, descends_reached, stands_for}
use Rattle.dc_laws.proofs.counted_steps_reach_what_is_above.Goals as goal

pub returns-clause-seats : goal.returns-clause-seats
returns-clause-seats c = λ caps h found s. (reached_descends caps h s found, descends_reached caps h s found)

pub returns-clause-blocks : goal.returns-clause-blocks
returns-clause-blocks c = λ x has i h e s.
    let found = stands_for x.parts.caps has.ascending i h e in
    (reached_descends x.parts.caps h s found, descends_reached x.parts.caps h s found)
