-- A history of the scene is one of the machine.
use Rattle.std.proofs.Common.{◌≡◌, ℕ, [], ◌∷◌, refl, ap, ◌∙◌}
use Rattle.dc_base.specs.declared.entries.Entry.{Entry}
use Rattle.dc_base.specs.States.{State, Settings}
use Rattle.dc_base.specs.Histories.{IsLawfulHistory, next}
use Rattle.dc_base.specs.Histories.{after as after_entries}
use Rattle.dc_base.specs.Objects.{at_number, HasSizes}
use Rattle.dc_touch.proofs.SizeLaws.{sizes_stay}
use Rattle.dc_stage.specs.History.{Log, run, IsLawfulFrom, after}
use Rattle.dc_scene.specs.Machines.{machine, at_sized}
use Rattle.dc_scene.specs.Sizes.{at_sizes}

-- after a history there are as many objects of each kind as before
pub sizes_after : (t : Settings) (s : State) → HasSizes t s → (log : Log Entry) → HasSizes t (after_entries s log)
sizes_after t s z [] = z
sizes_after t s z (e ∷ es) = sizes_after t (next s e.1) (sizes_stay t s e.1 z) es

module _ (t : Settings) (start : State) where
  pub to_machine : (s : State) (log : Log Entry) → IsLawfulFrom (machine t start) s log → IsLawfulHistory t s log
  to_machine s [] h = tt
  to_machine s (e ∷ es) h = (h.0.lawful, to_machine (next s e.1) es h.1)

  pub to_scene : (s : State) → HasSizes t s → (log : Log Entry) → IsLawfulHistory t s log → IsLawfulFrom (machine t start) s log
  to_scene s z [] h = tt
  to_scene s z (e ∷ es) h = (record { sizes = z; lawful = h.0 }, to_scene (next s e.1) (sizes_stay t s e.1 z) es h.1)

  pub run_same : (s : State) (log : Log Entry) → run (machine t start) s log ≡ after_entries s log
  run_same s [] = refl
  run_same s (e ∷ es) = run_same (next s e.1) es

-- the state of an object after a history
pub object_after : (t : Settings) (s : State) → HasSizes t s → (log : Log Entry) (i : ℕ) → after (machine t s) log i ≡ at_number t (after_entries s log) i
object_after t s z log i = ap (λ w. at_sized t w i) (run_same t s s log) ∙ at_sizes t (after_entries s log) (sizes_after t s z log) i
