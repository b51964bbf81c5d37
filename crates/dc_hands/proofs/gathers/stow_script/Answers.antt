use Rattle.dc_base.specs.Changes.{the_script}
use Rattle.dc_hands.specs.Machines.{number_of}
use Rattle.dc_hands.proofs.Gathered.{only_none, put_only}
use Rattle.dc_hands.proofs.RowHolds.{script_left}
use Rattle.dc_hands.proofs.gathers.stow_script.Goals as goal

pub returns-clause-same : goal.returns-clause-same
returns-clause-same g c =
    only_none c.args.pass.now c.put_script.new.pass
    (put_only c.args.pass.now c.put_script.new.pass (number_of c.args.stage.now the_script) c.put_script.ensures)
    (script_left c.args.stage.now c.args.pass.now c.put_script.new.pass c.args.hand c.requires.hand c.put_script.ensures)
