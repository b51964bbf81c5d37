use Rattle.dc_base.specs.Cores.{core_step}
use Rattle.dc_objects.specs.States.{state_of}
use Rattle.dc_ranges.proofs.RunEntries.{step_shows}
use Rattle.dc_play.proofs.Steps.{has_its_line}
use Rattle.dc_play.proofs.schedules.play_action.Goals as goal

pub push_entry-requires-clause-has_line : goal.push_entry-requires-clause-has_line
push_entry-requires-clause-has_line g c =
    let old = state_of c.args.objects.now in
    has_its_line old (state_of c.step.new.objects) (core_step old c.args.polls.now c.args.who c.args.action.now) c.step.result c.in-Did.entry c.in-Did.is c.step.ensures.step
    (step_shows old c.requires.sound c.args.polls.now c.args.who c.args.action.now)
