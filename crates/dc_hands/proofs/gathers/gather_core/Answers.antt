use Rattle.dc_base.specs.Changes.{a_core, core}
use Rattle.dc_hands.proofs.Gathered.{fails_gathering, missed_later, quiet_taken}
use Rattle.dc_hands.proofs.RowHolds.{hand_full}
use Rattle.dc_hands.proofs.gathers.gather_core.Goals as goal

pub returns-in-Ok-take_share-clause-hand : goal.returns-in-Ok-take_share-clause-hand
returns-in-Ok-take_share-clause-hand g c = (
  hand_full c.args.stage.now c.take_share.new.pass c.take_share.new.hand c.in-Ok-take_share.ensures.got.0 c.len.ensures.numbered,
  c.take_share.ensures.core.0,
)

pub returns-in-Err-take_share-clause-busy : goal.returns-in-Err-take_share-clause-busy
returns-in-Err-take_share-clause-busy g c =
    fails_gathering c.args.stage.now c.args.pass.now c.take_share.new.pass c.put_all.new.pass c.args.c.0 c.put_all.result c.in-Err-take_share.busy
    (missed_later c.args.stage.now c.args.pass.now c.take_core.new.pass c.take_share.new.pass c.args.c.0 c.in-Err-take_share.busy
    (quiet_taken c.args.stage.now c.args.pass.now c.take_core.new.pass (a_core c.args.c.0) (core c.in-Ok.core) c.in-Ok.ensures.got)
    c.in-Err-take_share.ensures.busy.1)
    c.put_all.ensures.same c.put_all.ensures.row
