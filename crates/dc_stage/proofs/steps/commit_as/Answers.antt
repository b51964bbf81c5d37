use Rattle.std.proofs.Common.{◌+◌, subst, sym, arith, ◌%◌, ◌^◌}
use mathlib.Core.Option.{none}
use Rattle.atomic_table.specs.Table.{step, Allows}
use Rattle.dc_stage.specs.Rule.{IsKept}
use Rattle.dc_stage.specs.Steps.{committed}
use Rattle.dc_stage.proofs.Commits.{commits}
use Rattle.dc_stage.proofs.steps.commit_as.Goals as goal

pub fetch_add-requires : goal.fetch_add-requires
fetch_add-requires g c = let sc = c.args.board.now.key in (
  c.requires.place.0,
  omega (arith, c.requires.place.1),
  subst (λ z. Allows (IsKept (g.S.Scene.meaning sc) g.S.Scene.state sc) c.args.board.now.table_id.slots c.args.seat.now.id c.args.seat.now.me 0 (λ x. (x + 1) % 2 ^ 64) (committed g.S.Scene.meaning z (step c.args.board.now.table_id.slots 0 1 0 none) c.args.seat.now.me)) (sym c.requires.entry)
      (commits g.S.Scene.meaning g.S.Scene.state sc (g.S.Scene.untouched sc) (g.S.Scene.local sc) _ _ _ c.args.entry.now c.requires.view.0 c.requires.view.1 c.requires.view.2 c.requires.held c.requires.lawful),
)

pub returns-clause-told : goal.returns-clause-told
returns-clause-told g c = subst (λ z. committed g.S.Scene.meaning z (step c.args.board.now.table_id.slots 0 1 0 none) c.args.seat.now.me c.fetch_add.result c.fetch_add.new.seat.me) c.requires.entry c.fetch_add.ensures.2
