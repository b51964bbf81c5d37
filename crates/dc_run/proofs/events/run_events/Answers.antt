use Rattle.std.proofs.Common.{ap, arith}
use Rattle.dc_logs.specs.Recorded.{Recorded}
use Rattle.dc_run.proofs.RestLaws.{none_seen}
use Rattle.dc_run.proofs.events.run_events.Goals as goal

pub go_on_until_over-requires-clause-home : goal.go_on_until_over-requires-clause-home
go_on_until_over-requires-clause-home g c κs within = record {
  crew = c.requires.crew;
  polls = omega arith;
  room = c.requires.room;
  rests = none_seen c.args.stage c.args.crew.script.log c.args.crew.seats.items (ap (λ (m : Recorded). m.entries) c.requires.new.3.log);
}

pub end_over-requires-clause-logs : goal.end_over-requires-clause-logs
end_over-requires-clause-logs g c =
    let over = c.in_ok-home.ensures in
    (c.requires.logs.0, (let m = c.requires.crew.count in let n = over.going.crew.count in let few = c.requires.logs.1 in omega (arith, m, n, few)))
