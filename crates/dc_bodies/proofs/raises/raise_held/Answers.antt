use Rattle.dc_bodies.proofs.RaiseTurns.{raised_is}
use Rattle.dc_bodies.proofs.raises.raise_held.Goals as goal

pub returns : goal.returns
returns c =
    raised_is c.args.script.now c.raised.new.self c.args.wire.now c.raise-raised.new.self c.args.next.place c.args.next.line c.raise-raised.result c.by_script.result c.requires.next
    c.raise-raised.ensures.raised c.raise-raised.ensures.after c.raised.ensures c.by_script.ensures
