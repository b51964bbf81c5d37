use Rattle.std.proofs.Common.{ℕ, List, sym, subst}
use Rattle.dc_base.specs.Sound.{IsSound}
use Rattle.dc_objects.specs.States.{state_of}
use Rattle.dc_play.specs.Plays.{Plays}
use Rattle.dc_play.proofs.Starting.{fits_the_start, text_of_run}
use Rattle.dc_play.proofs.plays.play.Goals as goal

pub play_on-requires-clause-sound : goal.play_on-requires-clause-sound
play_on-requires-clause-sound g c κs within = subst IsSound (sym c.in-Ok.ensures) (c.the_start_is_sound.ensures c.args.image.now c.args.script.now c.requires.image c.requires.script)

pub play_on-requires-clause-schedule : goal.play_on-requires-clause-schedule
play_on-requires-clause-schedule g c κs within = fits_the_start c.args.image.now c.args.script.now c.args.schedule.now (state_of c.in-Ok.machine) c.in-Ok.ensures c.requires.schedule

pub returns-clause-plays : goal.returns-clause-plays
returns-clause-plays g c =
    subst (λ (text : List ℕ). Plays (g.S.Sink.faults c.args.sink.now) (g.S.Sink.faults c.play_on.new.sink) (g.S.Sink.told c.args.sink.now) (g.S.Sink.told c.play_on.new.sink) text c.play_on.result)
    (text_of_run c.args.image.now c.args.script.now c.args.schedule.now (state_of c.in-Ok.machine) c.in-Ok.ensures)
    c.play_on.ensures.plays
