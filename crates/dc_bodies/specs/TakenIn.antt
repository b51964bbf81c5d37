-- What an intake makes of a block and a line, whatever stands elsewhere.
use Rattle.std.specs.Prelude.{◌≡◌, ℕ, [], ◌∷◌, true, Some, is_some, slice_get}
use Rattle.dc_base.specs.declared.actions.Action.TheVariants as action
use Rattle.dc_base.specs.declared.actions.Actor.TheVariants as actor
use Rattle.dc_base.specs.declared.entries.Entry.{Entry}
use Rattle.dc_base.specs.Changes.{block_becomes, line_becomes}
use Rattle.dc_base.specs.Lines.{Wire}
use Rattle.dc_base.specs.States.{State, Core, Block}
use Rattle.dc_bodies.specs.declared.intakes.Pending.{Pending}
use Rattle.dc_bodies.specs.Does.{Does}
use Rattle.dc_bodies.specs.Pendings.{IsPending}

-- core c, which is on, line l and the block to which its pending raise comes stand so
pub record StandToTake (s : State) (c : ℕ) (k : Core) (l : ℕ) (w : Wire) (p : Pending) (x : Block) : Type 0 where
  pub core : slice_get s.cores c ≡ Some k
  pub is_on : is_some k.version ≡ true
  pub line : slice_get s.lines l ≡ Some w
  pub block : slice_get s.blocks p.block.0 ≡ Some x

-- the intake of this pending raise took line l and the block from the first to the second
abbrev pub IsIntake : ℕ → ℕ → Pending → Wire → Wire → Block → Block → Entry → Type 0
IsIntake c l p w w' x x' e = (s : State) (k : Core) → IsPending c k w p → StandToTake s c k l w p x →
    Does s (actor.Core (record { 0 = c })) (action.Intake (record { 0 = l })) (block_becomes p.block.0 x' ∷ line_becomes l w' ∷ []) e
