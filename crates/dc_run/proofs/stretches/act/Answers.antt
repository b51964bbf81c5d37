use Rattle.dc_run.proofs.GoingLaws.{going_after, over_after}
use Rattle.dc_run.proofs.stretches.act.Goals as goal

pub returns-clause-going : goal.returns-clause-going
returns-clause-going g c =
    let a = c.act_at_rest-acted in
    going_after c.args.stage.now c.args.at.home c.args.at.entries a.result.script a.result.polls c.requires.rest a.ensures.script a.ensures.log a.ensures.polls

pub returns-clause-over : goal.returns-clause-over
returns-clause-over g c = λ is.
    let a = c.act_at_rest-acted in
    let st = c.args.stage.now in
    let home = c.args.at.home in
    let n = c.args.at.entries in
    let over = a.ensures.over is in
    let going = going_after st home n a.result.script a.result.polls c.requires.rest a.ensures.script a.ensures.log a.ensures.polls in
    over_after st home n a.result.script a.result.polls c.requires.rest going over.0 over.1 over.2
