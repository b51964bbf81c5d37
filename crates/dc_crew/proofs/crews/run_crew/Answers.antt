use Rattle.dc_crew.proofs.Staying.{crew_stays}
use Rattle.dc_crew.proofs.crews.run_crew.Goals as goal

pub returns-clause-crew : goal.returns-clause-crew
returns-clause-crew g c =
    crew_stays c.args.stage.now c.args.seats.items c.scoped.result.seats.items c.args.script c.scoped.result.script c.scoped.ensures.1.3
    c.scoped.ensures.1.0 c.requires.crew
