use Rattle.dc_hands.proofs.RowHolds.{row_of_hand}
use Rattle.dc_hands.proofs.gathers.stow_core.Goals as goal

pub put_all-requires-clause-row : goal.put_all-requires-clause-row
put_all-requires-clause-row g c κs within =
    row_of_hand c.args.stage.now c.requires.opened c.args.pass.now c.args.hand c.requires.hand c.len.ensures.numbered
