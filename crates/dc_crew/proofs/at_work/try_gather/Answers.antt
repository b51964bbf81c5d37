use Rattle.dc_scene.specs.Machines.{machine}
use Rattle.dc_crew.proofs.AtWork.{came_back}
use Rattle.dc_crew.proofs.at_work.try_gather.Goals as goal

pub returns-in-Err-clause-busy : goal.returns-in-Err-clause-busy
returns-in-Err-clause-busy c =
    let st = c.args.stage.now in
    let l = c.look.new.pass in
    came_back (machine st.scene.settings st.scene.start) st c.args.seat c.gather_core.new.pass l c.actor.result c.in-Err.ensures.busy c.look.ensures.same
    c.look.ensures.more c.requires.seat.0 ((c.history_is_of_the_machine.ensures.lawful st.scene c.requires.opened.sizes l.seen).0 c.look.ensures.more.lawful)
