use Rattle.std.proofs.Common.{◌≤◌, length, vec_capacity, arith}
use Rattle.dc_crew.specs.Started.{IsStarted}
use Rattle.dc_crew.proofs.Laters.{pairs_length}
use Rattle.dc_crew.proofs.Staying.{core_seats}
use Rattle.dc_crew.proofs.crews.fn.run_crew.scope.Goals as goal

pub start_all-seats-requires-clause-seats : goal.start_all-seats-requires-clause-seats
start_all-seats-requires-clause-seats g c κs within = core_seats c.captures.stage.now c.captures.seats.items c.captures.script c.requires.1

pub finish_all-seats-requires : goal.finish_all-seats-requires
finish_all-seats-requires g c =
    let started = c.start_all-seats.ensures in
    let pairs = c.script_work-script.ensures.started c.captures.seats.items started.started in
    let n = pairs_length (IsStarted c.captures.stage.now) c.captures.seats.items c.script_work-script.new.started.items pairs in
    let a = started.seats.1 in
    let few : length c.captures.seats.items ≤ vec_capacity c.captures.seats = (let o = c.captures.seats.ok in omega (arith, o)) in
    record { room = (started.seats.0, omega (arith, n, a, few)) }

pub script_work-script-requires-clause-started : goal.script_work-script-requires-clause-started
script_work-script-requires-clause-started g c κs within =
    (c.captures.seats.items, core_seats c.captures.stage.now c.captures.seats.items c.captures.script c.requires.1, c.start_all-seats.ensures.started)
