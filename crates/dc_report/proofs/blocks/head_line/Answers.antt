use Rattle.std.proofs.Common.{ap, ◌∙◌, length}
use Rattle.dc_objects.specs.States.{state_of}
use Rattle.dc_report.specs.Clocks.{clock_on}
use Rattle.dc_report.proofs.Bounds.{timed, time_is}
use Rattle.dc_report.proofs.Readings.{head_is, armed_is}
use Rattle.dc_report.proofs.blocks.head_line.Goals as goal

pub time-requires-after_bounds : goal.time-requires-after_bounds
time-requires-after_bounds g c κs within = timed (state_of c.args.objects.now) c.requires.sound c.clock_on-clock.result c.args.b c.args.block.now c.requires.there (c.clock_on-clock.ensures ∙ ap (clock_on c.args.objects.now.cores.items) c.core-core.ensures)

pub returns : goal.returns
returns g c =
    let cores = c.args.objects.now.cores.items in
    let clock = c.clock_on-clock.ensures ∙ ap (clock_on cores) c.core-core.ensures in
    head_is cores c.args.b c.args.block.now c.core-core.result c.time.result c.len.result c.core-core.ensures (c.time.ensures ∙ time_is cores c.clock_on-clock.result c.args.block.now clock) (c.len.ensures.value ∙ (ap length c.timers.ensures ∙ armed_is c.args.block.now.control.parts.timers))
