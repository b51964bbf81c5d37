use Rattle.dc_top.proofs.Loading.{all_serve, bounds_fit, script_halts, schedule_halts}
use Rattle.dc_base.specs.States.{settings_of}
use Rattle.dc_top.proofs.loads.load_play.Goals as goal

pub returns-in-Err-load_script-clause-halts : goal.returns-in-Err-load_script-clause-halts
returns-in-Err-load_script-clause-halts g c =
    script_halts c.args.image.now c.args.script.now c.args.schedule.now c.in-Ok.machine c.bounds_of-bounds.result c.bounds_of-bounds.ensures (g.H.Shelf.told c.args.shelf.now) (g.H.Shelf.told c.load_image.new.shelf)
    (g.H.Shelf.faults c.args.shelf.now) (g.H.Shelf.faults c.load_image.new.shelf) (g.H.Shelf.faults c.load_script.new.shelf) c.in-Err-load_script.halt c.in-Ok.ensures.image c.in-Ok.ensures.kept
    c.in-Ok.ensures.grows c.in-Err-load_script.ensures.halts

pub returns-in-Err-load_schedule-clause-halts : goal.returns-in-Err-load_schedule-clause-halts
returns-in-Err-load_schedule-clause-halts g c =
    schedule_halts c.args.image.now c.args.script.now c.args.schedule.now c.in-Ok.machine c.bounds_of-bounds.result c.bounds_of-bounds.ensures c.in-Ok-load_script.lines (g.H.Shelf.told c.args.shelf.now)
    (g.H.Shelf.told c.load_image.new.shelf) (g.H.Shelf.told c.load_script.new.shelf) (g.H.Shelf.faults c.args.shelf.now) (g.H.Shelf.faults c.load_image.new.shelf) (g.H.Shelf.faults c.load_script.new.shelf)
    (g.H.Shelf.faults c.load_schedule.new.shelf) c.in-Err-load_schedule.halt c.in-Ok.ensures.image c.in-Ok.ensures.kept c.in-Ok-load_script.ensures.script c.in-Ok-load_script.ensures.kept
    c.in-Ok.ensures.grows c.in-Ok-load_script.ensures.grows c.in-Err-load_schedule.ensures.halts

pub returns-clause-ready : goal.returns-clause-ready
returns-clause-ready g c =
    all_serve c.args.image.now c.args.script.now c.args.schedule.now c.in-Ok.machine c.bounds_of-bounds.result c.bounds_of-bounds.ensures c.in-Ok-load_script.lines c.in-Ok-load_schedule.actions
    (g.H.Shelf.told c.args.shelf.now) (g.H.Shelf.told c.load_image.new.shelf) (g.H.Shelf.told c.load_script.new.shelf) c.in-Ok.ensures.image c.in-Ok.ensures.kept c.in-Ok-load_script.ensures.script
    c.in-Ok-load_script.ensures.kept c.in-Ok-load_schedule.ensures.schedule

pub returns-clause-valid_script : goal.returns-clause-valid_script
returns-clause-valid_script g c = c.in-Ok-load_script.ensures.valid (settings_of c.in-Ok.machine) (bounds_fit c.in-Ok.machine c.bounds_of-bounds.result c.bounds_of-bounds.ensures)

pub returns-clause-valid_schedule : goal.returns-clause-valid_schedule
returns-clause-valid_schedule g c = c.in-Ok-load_schedule.ensures.valid (settings_of c.in-Ok.machine) (bounds_fit c.in-Ok.machine c.bounds_of-bounds.result c.bounds_of-bounds.ensures)
