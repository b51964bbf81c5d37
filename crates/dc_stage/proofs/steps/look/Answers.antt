use Rattle.std.proofs.Common.{arith}
use Rattle.dc_stage.proofs.Looks.{looks}
use Rattle.dc_stage.proofs.steps.look.Goals as goal

pub load-requires : goal.load-requires
load-requires g c = (
  c.requires.place.0,
  omega (arith, c.requires.place.1),
  looks g.S.Scene.meaning g.S.Scene.state c.args.board.now.key _ _ _ c.requires.view,
)
