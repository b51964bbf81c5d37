use Rattle.std.proofs.Common.{ℕ, ◌+◌, subst, arith, eqb}
use mathlib.Core.Option.{none}
use prog.Atomic.{either}
use Rattle.atomic_table.specs.Table.{step, Allows}
use Rattle.dc_stage.specs.Rule.{IsKept}
use Rattle.dc_stage.specs.Steps.{took}
use Rattle.dc_stage.proofs.Takes.{attempts}
use Rattle.dc_stage.proofs.steps.try_turn.Goals as goal

pub compare_exchange-requires : goal.compare_exchange-requires
compare_exchange-requires g c = let sc = c.args.board.now.key in let n : ℕ = c.args.board.now.table_id.slots in (
  c.requires.place.0,
  omega (arith, c.requires.place.1, c.requires.object),
  subst (λ (z : ℕ). Allows (IsKept (g.S.Scene.meaning sc) g.S.Scene.state sc) n c.args.seat.now.id c.args.seat.now.me (c.args.i + 1) (λ y. either (eqb y 0) (z + 1) y) (took g.S.Scene.meaning g.S.Scene.state (step n (c.args.i + 1) 0 (z + 1) none) c.args.seat.now.me)) c.requires.view.1
      (attempts g.S.Scene.meaning g.S.Scene.state sc _ _ c.args.i _ c.requires.view.0 c.requires.view.3 c.requires.object),
)
