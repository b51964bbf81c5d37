use Rattle.dc_crew.proofs.core_work.turn_here.Goals as goal

pub stow-requires-clause-work : goal.stow-requires-clause-work
stow-requires-clause-work c = (c.args.seat, c.go_and_tell.ensures c.args.seat c.in-Ok.ensures.work)

pub returns-in-Ok : goal.returns-in-Ok
returns-in-Ok c = c.stow.ensures c.args.seat (c.go_and_tell.ensures c.args.seat c.in-Ok.ensures.work)
