use Rattle.dc_hands.proofs.HandShows.{shapes_shown, wakes_shown}
use Rattle.dc_hands.proofs.waiting.hands_show_their_blocks.Goals as goal

pub returns-clause-shapes : goal.returns-clause-shapes
returns-clause-shapes g c = λ st k h opened holds b x e. shapes_shown st k h holds opened b x e

pub returns-clause-wakes : goal.returns-clause-wakes
returns-clause-wakes g c = λ st k h holds each y at. wakes_shown st k h holds each y at
