use Rattle.dc_base.specs.States.{settings_of}
use Rattle.dc_top.proofs.Loading.{bounds_fit}
use Rattle.dc_top.proofs.LoadingInputs.{both_serve, script_stops}
use Rattle.dc_top.proofs.loads.load_inputs.Goals as goal

pub returns-clause-halts : goal.returns-clause-halts
returns-clause-halts g c =
    script_stops c.args.image.now c.args.script.now c.in-Ok.machine c.bounds_of-bounds.result c.bounds_of-bounds.ensures (g.H.Shelf.told c.args.shelf.now) (g.H.Shelf.told c.load_image.new.shelf)
    (g.H.Shelf.faults c.args.shelf.now) (g.H.Shelf.faults c.load_image.new.shelf) (g.H.Shelf.faults c.load_script.new.shelf) c.in-Err-load_script.halt c.in-Ok.ensures.image c.in-Ok.ensures.kept
    c.in-Ok.ensures.grows c.in-Err-load_script.ensures.halts

pub returns-in-Ok-load_script-clause-ready : goal.returns-in-Ok-load_script-clause-ready
returns-in-Ok-load_script-clause-ready g c =
    both_serve c.args.image.now c.args.script.now c.in-Ok.machine c.bounds_of-bounds.result c.bounds_of-bounds.ensures (g.H.Shelf.told c.args.shelf.now) (g.H.Shelf.told c.load_image.new.shelf)
    c.in-Ok-load_script.lines c.in-Ok.ensures.image c.in-Ok.ensures.kept c.in-Ok-load_script.ensures.script

pub returns-in-Ok-load_script-clause-valid_script : goal.returns-in-Ok-load_script-clause-valid_script
returns-in-Ok-load_script-clause-valid_script g c =
    c.in-Ok-load_script.ensures.valid (settings_of c.in-Ok.machine) (bounds_fit c.in-Ok.machine c.bounds_of-bounds.result c.bounds_of-bounds.ensures)
