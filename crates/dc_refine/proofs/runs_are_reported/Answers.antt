use Rattle.dc_refine.proofs.RunReports.{image_run_reported, image_run_stands, image_run_agrees, image_run_sound}
use Rattle.dc_refine.proofs.runs_are_reported.Goals as goal

pub returns-clause-reported : goal.returns-clause-reported
returns-clause-reported c = image_run_reported

pub returns-clause-stands : goal.returns-clause-stands
returns-clause-stands c = image_run_stands

pub returns-clause-agrees : goal.returns-clause-agrees
returns-clause-agrees c = image_run_agrees

pub returns-clause-sound : goal.returns-clause-sound
returns-clause-sound c = image_run_sound
