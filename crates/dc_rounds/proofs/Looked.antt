-- What a look shows, in the machine's words.
use Rattle.std.proofs.Common.{◌≡◌, sym, ap, ◌∙◌}
use Rattle.dc_base.specs.declared.entries.Entry.{Entry}
use Rattle.dc_base.specs.States.{State, Settings}
use Rattle.dc_base.specs.Changes.{Name, at}
use Rattle.dc_base.specs.Objects.{at_number, object_number}
use Rattle.dc_base.specs.Words.{bind}
use Rattle.dc_touch.specs.Within.{Within}
use Rattle.dc_touch.proofs.Numbers.{name_at-number}
use Rattle.dc_scene.specs.Machines.{machine}
use Rattle.dc_scene.proofs.Runs.{to_machine, object_after}
use Rattle.dc_stage.specs.History.{Log, after}
use Rattle.dc_stage.specs.Calls.{SeesMore}
use Rattle.dc_hands.specs.Machines.{Staged, Passing, IsOpened, state_after, number_of}
use Rattle.dc_hands.specs.Holding.{SeesOn}

-- an object of the machine stands in the scene at its number
at_its_number : (t : Settings) (s : State) (n : Name) → Within t n → at_number t s (object_number t n) ≡ at s n
unfolding at_number
at_its_number t s n w = ap (λ o. bind o (at s)) (name_at-number t n w)

module _ {D : Type 0} (st : Staged D) (opened : IsOpened st) where
  stands_there : (log : Log Entry) (n : Name) → Within st.scene.settings n → after (machine st.scene.settings st.scene.start) log (number_of st n) ≡ at (state_after st log) n
  stands_there log n w =
      object_after st.scene.settings st.scene.start opened.sizes log (number_of st n) ∙ at_its_number st.scene.settings (state_after st log) n w

  -- more was seen, and what is held stands as before
  pub looked_on : (k : Passing D) (log : Log Entry) → SeesMore (machine st.scene.settings st.scene.start) k log → SeesOn st k log
  looked_on k log more = record {
    sees = more.sees;
    mine = more.mine;
    lawful = λ _. to_machine st.scene.settings st.scene.start st.scene.start log more.lawful;
    kept = λ n w h. sym (stands_there log n w) ∙ more.kept (number_of st n) h ∙ stands_there k.seen n w;
  }
