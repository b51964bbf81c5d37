use Rattle.std.proofs.Common.{ap, ℕ, ◌+◌, subst, sym, arith, eqb, ◌∷◌, ◌∙◌, Some}
use mathlib.Core.Option.{none}
use prog.Atomic.{either}
use Rattle.atomic_table.specs.Table.{step, rest, Allows}
use Rattle.dc_stage.specs.Views.{giving}
use Rattle.dc_stage.specs.Rule.{IsKept}
use Rattle.dc_stage.specs.Steps.{gave}
use Rattle.dc_stage.proofs.Gives.{returns_home, given}
use Rattle.dc_stage.proofs.steps.give.Goals as goal

pub compare_exchange-requires : goal.compare_exchange-requires
compare_exchange-requires g c = let sc = c.args.board.now.key in let n : ℕ = c.args.board.now.table_id.slots in let me = c.args.seat.now.me in let meaning = g.S.Scene.meaning in let ex = c.exchange.ensures in (
  ex.0 ∙ c.requires.place.0,
  omega (arith, c.requires.place.1, c.requires.object),
  subst (λ m. Allows (IsKept (meaning sc) g.S.Scene.state sc) n c.exchange.new.seat.id m (c.args.i + 1) (λ y. either (eqb y (c.args.actor + 1)) 0 y) (gave (step n (c.args.i + 1) (c.args.actor + 1) 0 none) m)) (sym ex.3)
      (subst (λ (z : ℕ). Allows (IsKept (meaning sc) g.S.Scene.state sc) n c.exchange.new.seat.id (me.0, (c.args.i, Some c.args.object) ∷ rest me.1) (c.args.i + 1) (λ y. either (eqb y (z + 1)) 0 y) (gave (step n (c.args.i + 1) (z + 1) 0 none) (me.0, (c.args.i, Some c.args.object) ∷ rest me.1))) c.requires.view.2
      (returns_home meaning g.S.Scene.state sc n _ c.args.i me.0 c.args.object (rest me.1) c.requires.view.0 c.requires.view.1 c.requires.view.4 c.requires.object c.requires.state)),
)

pub returns-clause-told : goal.returns-clause-told
returns-clause-told g c = given c.args.board.now.table_id.slots c.args.i (c.args.actor + 1) c.exchange.new.seat.me c.compare_exchange.new.seat.me c.compare_exchange.result c.compare_exchange.ensures.2
    ∙ ap (λ z. (giving z.0 c.args.i, rest z.1)) c.exchange.ensures.3
