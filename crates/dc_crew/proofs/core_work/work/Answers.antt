use Rattle.dc_crew.proofs.core_work.work.Goals as goal

pub stow-requires-clause-work : goal.stow-requires-clause-work
stow-requires-clause-work g c = (c.args.seat, c.go_rounds.ensures c.args.seat c.gather_seat-work.ensures)

pub returns : goal.returns
returns g c = c.stow.ensures c.args.seat (c.go_rounds.ensures c.args.seat c.gather_seat-work.ensures)
