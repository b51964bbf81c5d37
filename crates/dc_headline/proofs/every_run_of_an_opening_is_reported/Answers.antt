use Rattle.std.proofs.Common.{sym, subst}
use Rattle.dc_base.specs.Origins.{Origin}
use Rattle.dc_base.specs.Headline.{IsReportedRunOf}
use Rattle.dc_headline.proofs.every_run_of_an_opening_is_reported.Goals as goal

pub returns-clause-reported : goal.returns-clause-reported
returns-clause-reported c s schedule opens = c.openings_run.ensures.reported s schedule opens c.sound_keeps.ensures

pub returns-clause-stands : goal.returns-clause-stands
returns-clause-stands c s schedule opens = c.openings_run.ensures.stands s schedule opens c.sound_keeps.ensures

pub returns-clause-sound : goal.returns-clause-sound
returns-clause-sound c s schedule opens = c.openings_run.ensures.sound s schedule opens c.sound_keeps.ensures

pub returns-clause-image : goal.returns-clause-image
returns-clause-image c image script valid lines = c.starts_are_openings.ensures.opening image script valid (c.the_start_is_sound.ensures image script valid lines)

pub returns-clause-same : goal.returns-clause-same
returns-clause-same c image script journal report valid lines =
    let same = c.starts_are_openings.ensures.same image script valid (c.the_start_is_sound.ensures image script valid lines) in
    (subst (λ (o : Origin). IsReportedRunOf o journal report) same, subst (λ (o : Origin). IsReportedRunOf o journal report) (sym same))
