use Rattle.dc_crew.proofs.script_work.go_on.Goals as goal

pub turn_all_here-requires-clause-started : goal.turn_all_here-requires-clause-started
turn_all_here-requires-clause-started g c κs within =
    let s = c.requires.started in (s.0, s.1, c.loop.invariant.still s.0 s.2)
