use Rattle.std.proofs.Common.{arith}
use Rattle.dc_stage.proofs.Joins.{joins}
use Rattle.dc_stage.proofs.steps.join.Goals as goal

pub join_seat-requires : goal.join_seat-requires
join_seat-requires g c = let sc = c.args.board.now.key in (
  c.requires.place.0,
  c.requires.other_place,
  c.requires.other.2,
  omega (arith, c.requires.place.1),
  joins (g.S.Scene.meaning sc) g.S.Scene.state sc _ _ _ _ c.requires.first.0 c.requires.first.1 c.requires.other.0 c.requires.other.1,
)
