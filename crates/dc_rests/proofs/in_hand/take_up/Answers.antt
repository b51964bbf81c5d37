use Rattle.dc_rests.proofs.InHand.{waits_not}
use Rattle.dc_rests.proofs.in_hand.take_up.Goals as goal

pub loop-init : goal.loop-init
loop-init g c = record { may_go = (tt, tt); waited = waits_not c.args.pass.now c.requires.free }
