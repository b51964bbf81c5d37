use Rattle.dc_crew.proofs.Noting.{polls_quietly}
use Rattle.dc_crew.proofs.script_acting.poll_script.Goals as goal

pub note-requires-clause-quiet : goal.note-requires-clause-quiet
note-requires-clause-quiet g c =
    polls_quietly c.args.stage.now c.args.pass.now c.poll_on-turned.new.pass c.args.hand.now c.poll_on-turned.new.hand c.args.most c.poll_on-turned.result
    c.poll_on-turned.ensures.turn
