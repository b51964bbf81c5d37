use Rattle.dc_crew.proofs.ScriptStays.{waits_not}
use Rattle.dc_crew.proofs.script_work.take_script_up.Goals as goal

pub loop-init : goal.loop-init
loop-init g c = record { may_go = (tt, tt); waited = waits_not c.args.pass.now c.requires.free }
