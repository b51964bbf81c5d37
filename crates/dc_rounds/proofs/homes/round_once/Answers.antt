use Rattle.std.proofs.Common.{◌∙◌}
use Rattle.dc_hands.proofs.Seeing.{goes_through}
use Rattle.dc_rounds.proofs.Coming.{log_on, goes_home, home_looked}
use Rattle.dc_rounds.proofs.homes.round_once.Goals as goal

pub go_round-round-requires-clause-work : goal.go_round-round-requires-clause-work
go_round-round-requires-clause-work g c κs within = record {
  hand = c.in-Ok.ensures.hand.0;
  log = log_on c.args.pass.now c.gather_core.new.pass c.logs_stay.ensures c.args.log.now.entries c.in-Ok.ensures.quiet.on c.in-Ok.ensures.quiet.mine c.requires.home.log_is;
}

pub returns-in-Ok-clause-on : goal.returns-in-Ok-clause-on
returns-in-Ok-clause-on g c =
    goes_home c.args.pass.now c.go_round-round.new.pass c.stow_core.new.pass
    (goes_through c.args.pass.now c.gather_core.new.pass c.go_round-round.new.pass c.in-Ok.ensures.quiet.on c.go_round-round.ensures.on) c.stow_core.ensures.same

pub returns-in-Err-clause-home : goal.returns-in-Err-clause-home
returns-in-Err-clause-home g c =
    let k = c.args.pass.now in
    let m = c.in-Err.ensures.busy in
    let l = c.gather_core.new.pass in
    home_looked c.args.stage.now l c.look.new.pass c.args.log.now c.args.c.0 c.logs_stay.ensures (m.missed.on.actor ∙ c.requires.home.actor) m.holds
    (log_on k l c.logs_stay.ensures c.args.log.now.entries m.missed.on m.missed.mine c.requires.home.log_is) c.look.ensures.same c.look.ensures.more
