use Rattle.std.proofs.Common.{refl, ◌∙◌}
use Rattle.dc_crew.proofs.Laters.{later_seat_same, later_seat_through}
use Rattle.dc_crew.proofs.Staying.{crew_stays}
use Rattle.dc_rests.proofs.Crews.{seats_same, seats_through}
use Rattle.dc_rests.proofs.settling.settle.Goals as goal

pub loop-init : goal.loop-init
loop-init g c =
    let st = c.args.stage.now in
    let crew = c.requires.crew in record {
      may_go = (tt, tt);
      crew = crew;
      script = later_seat_same st c.args.script crew.script_is.0;
      log = refl;
      seats = seats_same st c.args.seats.items crew.cores;
    }

pub returns-then-is_some-clause-crew : goal.returns-then-is_some-clause-crew
returns-then-is_some-clause-crew g c =
    let r = c.try_settle-settled.result in
    let e = c.try_settle-settled.ensures in
    crew_stays c.args.stage.now c.loop.seats.items r.seats.items c.loop.script r.script e.seats e.script c.loop.invariant.crew

pub returns-then-is_some-clause-seats : goal.returns-then-is_some-clause-seats
returns-then-is_some-clause-seats g c =
    seats_through c.args.stage.now c.args.seats.items c.loop.seats.items c.try_settle-settled.result.seats.items c.loop.invariant.seats
    c.try_settle-settled.ensures.seats

pub loop-preserved : goal.loop-preserved
loop-preserved g c =
    let st = c.args.stage.now in
    let inv = c.loop.invariant in
    let r = c.try_settle-settled.result in
    let e = c.try_settle-settled.ensures in record {
      may_go = (tt, tt);
      crew = crew_stays st c.loop.seats.items r.seats.items c.loop.script r.script e.seats e.script inv.crew;
      script = later_seat_through st c.args.script c.loop.script r.script inv.script e.script;
      log = e.log ∙ inv.log;
      seats = seats_through st c.args.seats.items c.loop.seats.items r.seats.items inv.seats e.seats;
    }
