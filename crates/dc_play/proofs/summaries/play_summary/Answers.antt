use Rattle.dc_objects.specs.States.{state_of}
use Rattle.dc_play.proofs.Summing.{start_valid, few_consoles, summed}
use Rattle.dc_play.proofs.summaries.play_summary.Goals as goal

pub count_actions-counts-requires-clause-schedule : goal.count_actions-counts-requires-clause-schedule
count_actions-counts-requires-clause-schedule g c κs within =
    start_valid c.args.image.now c.args.script.now c.args.schedule.now (state_of c.in_ok-objects.objects) c.in_ok-objects.ensures c.requires.schedule

pub words_on-requires : goal.words_on-requires
words_on-requires g c = few_consoles (state_of c.count_actions-counts.new.objects) c.as_slice-consoles.result.now c.count_actions-counts.ensures.sound c.as_slice-consoles.ensures.value

pub returns : goal.returns
returns g c =
    summed c.args.image.now c.args.script.now c.args.schedule.now (state_of c.in_ok-objects.objects) (state_of c.count_actions-counts.new.objects) c.as_slice-consoles.result.now c.count_actions-counts.result c.words_on.result c.sum_of.result
    c.in_ok-objects.ensures c.count_actions-counts.ensures.state c.count_actions-counts.ensures.entries c.count_actions-counts.ensures.skipped c.as_slice-consoles.ensures.value c.words_on.ensures c.sum_of.ensures
