use Rattle.dc_crew.proofs.Staying.{core_seats}
use Rattle.dc_rests.proofs.settling.try_settle.Goals as goal

pub turn_cores-seats-requires-clause-cores : goal.turn_cores-seats-requires-clause-cores
turn_cores-seats-requires-clause-cores c = core_seats c.args.stage.now c.args.seats.items c.args.script c.requires.crew
