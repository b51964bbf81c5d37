use Rattle.dc_refine.proofs.RunReports.{opening_run_reported, opening_run_stands, opening_run_agrees, opening_run_shows, opening_run_sound}
use Rattle.dc_refine.proofs.openings_run.Goals as goal

pub returns-clause-reported : goal.returns-clause-reported
returns-clause-reported c = opening_run_reported

pub returns-clause-stands : goal.returns-clause-stands
returns-clause-stands c = opening_run_stands

pub returns-clause-agrees : goal.returns-clause-agrees
returns-clause-agrees c = opening_run_agrees

pub returns-clause-shown : goal.returns-clause-shown
returns-clause-shown c = opening_run_shows

pub returns-clause-sound : goal.returns-clause-sound
returns-clause-sound c = opening_run_sound
