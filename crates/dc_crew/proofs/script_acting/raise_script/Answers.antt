use Rattle.dc_crew.proofs.Noting.{raises_quietly}
use Rattle.dc_crew.proofs.script_acting.raise_script.Goals as goal

pub note-requires-clause-quiet : goal.note-requires-clause-quiet
note-requires-clause-quiet g c =
    raises_quietly c.args.stage.now c.args.pass.now c.script_turn-turned.new.pass c.args.hand.now.polls c.script_turn-turned.result
    c.script_turn-turned.ensures.turn
