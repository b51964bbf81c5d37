-- What is generated is valid.
use Rattle.dc_gen.proofs.InputValid.{valid_image, valid_script, valid_schedule}
use Rattle.dc_gen.proofs.generate.Goals as goal

pub returns-clause-valid_image : goal.returns-clause-valid_image
returns-clause-valid_image c = valid_image _ c.in_ok-generate_image.ensures

pub returns-clause-valid_script : goal.returns-clause-valid_script
returns-clause-valid_script c = valid_script _ _ c.in_ok-generate_image.ensures c.in_ok-generate_script.ensures

pub returns-clause-valid_schedule : goal.returns-clause-valid_schedule
returns-clause-valid_schedule c = valid_schedule _ c.args.n _ c.in_ok-generate_image.ensures c.in_ok-generate_schedule.ensures
