use Rattle.std.proofs.Common.{ℕ, ◌+◌, length, sym, ap, ◌∙◌}
use Rattle.std.proofs.lemmas.List.{length-map}
use Rattle.dc_crew.specs.Machines.{Either}
use Rattle.dc_scene.specs.declared.machines.Machine.{Machine}
use Rattle.dc_scene.specs.Objects.{object_seen}
use Rattle.dc_run.specs.Openings.{IsStageOf}
use Rattle.dc_run.proofs.Opened.{is_opened}
use Rattle.dc_run.proofs.opening.open_machine.Goals as goal

pub returns-in-Ok-clause-opened : goal.returns-in-Ok-clause-opened
returns-in-Ok-clause-opened c =
    let image = c.args.image.now in
    let lines = c.args.script.now in
    let held = c.args.list.items in
    let made = c.in-Ok.ensures.stage in
    let settings = ap (λ (m : Machine Either). m.settings) made.0 ∙ c.scene-machine.ensures.settings in
    let start = ap (λ (m : Machine Either). m.start) made.0 ∙ c.scene-machine.ensures.start in
    let cores = c.cores-actors.ensures ∙ sym (ap (λ (m : Machine Either). m.settings.cores) made.0) in
    let of : IsStageOf image lines c.in-Ok.opened.0 = record { settings = settings; start = start; actors = made.2 ∙ ap (λ (n : ℕ). n + 1) cores } in
    let sound = c.the_start_is_sound.ensures image lines c.requires.image c.requires.script in
    is_opened image lines c.in-Ok.opened.0 of (c.start_is_sized.ensures.sizes image lines) sound
    (made.1 ∙ sym (length-map held object_seen) ∙ ap length c.requires.list)
