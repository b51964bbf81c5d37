-- What is generated is valid.
use Rattle.std.proofs.Common.{◌≡◌, ℕ, List, refl, sym, subst}
use Rattle.dc_base.specs.declared.images.Image.{Image}
use Rattle.dc_base.specs.declared.commands.ScriptLine.{ScriptLine}
use Rattle.dc_base.specs.declared.actions.Actor.{Actor}
use Rattle.dc_base.specs.declared.actions.Action.{Action}
use Rattle.dc_base.specs.States.{settings_of}
use Rattle.dc_base.specs.Generated.{generated_image, generated_script, generated_schedule}
use Rattle.dc_base.specs.Valid.{IsValid, IsValidScript, IsValidSchedule}
use Rattle.dc_gen.proofs.ImageValid.{image_valid}
use Rattle.dc_gen.proofs.ScriptValid.{script_valid}
use Rattle.dc_gen.proofs.ScheduleValid.{schedule_valid}

cores : (settings_of generated_image).cores ≡ 8
unfolding generated_image
cores = refl

blocks : (settings_of generated_image).blocks ≡ 16
unfolding generated_image
blocks = refl

pub valid_image : (i : Image) → i ≡ generated_image → IsValid i
valid_image i is = subst IsValid (sym is) image_valid

pub valid_script : (i : Image) (s : List ScriptLine) → i ≡ generated_image → s ≡ generated_script → IsValidScript (settings_of i) s
valid_script i s image_is script_is =
    subst (λ j. IsValidScript (settings_of j) s) (sym image_is) (subst (IsValidScript (settings_of generated_image)) (sym script_is) (script_valid (settings_of generated_image) cores blocks))

pub valid_schedule : (i : Image) (n : ℕ) (s : List (Actor × Action)) → i ≡ generated_image → s ≡ generated_schedule n → IsValidSchedule (settings_of i) s
valid_schedule i n s image_is schedule_is =
    subst (λ j. IsValidSchedule (settings_of j) s) (sym image_is) (subst (IsValidSchedule (settings_of generated_image)) (sym schedule_is) (schedule_valid (settings_of generated_image) n cores blocks))
