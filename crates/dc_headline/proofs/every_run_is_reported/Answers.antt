use Rattle.dc_headline.proofs.every_run_is_reported.Goals as goal

pub returns-clause-reported : goal.returns-clause-reported
returns-clause-reported c image script schedule valid lines = c.runs_are_reported.ensures.reported image script schedule valid (c.the_start_is_sound.ensures image script valid lines) c.sound_keeps.ensures

pub returns-clause-stands : goal.returns-clause-stands
returns-clause-stands c image script schedule valid lines = c.runs_are_reported.ensures.stands image script schedule valid (c.the_start_is_sound.ensures image script valid lines) c.sound_keeps.ensures

pub returns-clause-sound : goal.returns-clause-sound
returns-clause-sound c image script schedule valid lines = c.runs_are_reported.ensures.sound image script schedule valid (c.the_start_is_sound.ensures image script valid lines) c.sound_keeps.ensures
