use Rattle.dc_refine.proofs.Refused.{refused-moves}
use Rattle.dc_refine.proofs.refused_commands_move_on.Goals as goal

pub returns : goal.returns
returns c = refused-moves
