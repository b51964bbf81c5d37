use Rattle.std.proofs.Common.{ap}
use mathlib.Core.Option.{none}
use Rattle.atomic_table.specs.Table.{step}
use Rattle.dc_stage.proofs.Passes.{goes_on, ok_seeing, commits_as}
use Rattle.dc_stage.proofs.stage.Stage.commit.Goals as goal

pub invariant_of-pass : goal.invariant_of-pass
invariant_of-pass g c = let t = c.commit.ensures in goes_on (ap (λ z. z.slots) t.same.0) t.told.4 (ok_seeing c.pass.invariant _ t.told.8)

pub returns : goal.returns
returns g c = let t = c.commit.ensures in commits_as g.S.Scene.meaning c.args.self.now.scene (g.S.Scene.untouched c.args.self.now.scene) (g.S.Scene.local c.args.self.now.scene) c.pass.inside.seat.table_id c.commit.new.seat.table_id
    (step c.self.inside.board.shared.table_id.slots 0 1 0 none) c.pass.inside.seat.me c.commit.new.seat.me c.args.pass.now c.args.entry.now c.commit.result c.pass.view_is c.requires.stage.1 t.same.0 c.requires.held c.requires.lawful t.told
