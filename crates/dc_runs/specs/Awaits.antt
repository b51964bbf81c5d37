-- Awaits that were given up.
use Rattle.std.specs.Prelude.{◌≡◌, ℕ, List, ◌∷◌, ◌++◌}
use Rattle.dc_base.specs.declared.actions.Actor.TheVariants as actor
use Rattle.dc_base.specs.declared.entries.Entry.{Entry}
use Rattle.dc_base.specs.declared.entries.What.TheVariants as what
use Rattle.dc_base.specs.declared.numbers.BlockNo.{BlockNo}
use Rattle.dc_base.specs.States.{State}
use Rattle.dc_base.specs.Histories.{after}
use Rattle.dc_base.specs.PlayText.{AreCoresAtRest}

-- an await was given up only where no core could act
abbrev pub AreGivenUpAtRest : State → List (ℕ × Entry) → Type 0
AreGivenUpAtRest s history = (before more : List (ℕ × Entry)) (who q : ℕ) (b : BlockNo) (seen : ℕ) →
    history ≡ before ++ (who, record { actor = actor.Script; what = what.Unmet q b seen }) ∷ more → AreCoresAtRest (after s before)
