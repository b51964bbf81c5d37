use Rattle.std.proofs.Common.{◌<◌, IfSome, length, subst}
use Rattle.dc_rests.specs.Resting.{IsRest}
use Rattle.dc_run.proofs.GoingLaws.{still_going}
use Rattle.dc_run.proofs.stretches.work_until_rest.Goals as goal

pub returns-in-Some : goal.returns-in-Some
returns-in-Some g c =
    let st = c.args.stage.now in
    let home = c.run_crew-home in
    let rest = c.settle-settled in
    let script = rest.result.script in
    record {
      going = still_going st c.args.home home.result
          (record { script = script; polls = home.result.polls; seats = rest.result.seats; room = home.result.room })
          c.requires.home home.ensures.log home.ensures.seats rest.ensures.seats rest.ensures.log rest.ensures.crew home.ensures.polls home.ensures.room;
      rest = subst (λ o. IfSome o (λ n. IsRest st n rest.result.seats.items script)) c.in-Some.is rest.ensures.rest;
      room = subst (λ o. IfSome o (λ n. length script.log.entries < script.log.room)) c.in-Some.is rest.ensures.room;
    }
