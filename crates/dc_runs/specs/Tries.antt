-- A core that tried all that it could do, in vain.
use Rattle.std.specs.Prelude.{◌≡◌, ℕ, ◌<◌, true, Some, slice_get, length}
use Rattle.dc_base.specs.declared.actions.Action.{Action}
use Rattle.dc_base.specs.declared.actions.Action.TheVariants as action
use Rattle.dc_base.specs.declared.actions.Actor.TheVariants as actor
use Rattle.dc_base.specs.declared.dispatchers.DispState.{DispState}
use Rattle.dc_base.specs.Words.{Each}
use Rattle.dc_base.specs.Named.{waits_on_channel}
use Rattle.dc_base.specs.States.{State, Core, Member, Block}
use Rattle.dc_base.specs.Cores.{core_step}
use Rattle.dc_base.specs.PlayText.{IsFruitless}

-- core c's action makes no entry here
abbrev pub IsInVain : State → ℕ → Action → Type 0
IsInVain s c a = IsFruitless (core_step s 0 (actor.Core (record { 0 = c })) a)

-- no dispatcher of block b that waits on a channel goes on when core c wakes it
abbrev pub AreWakesInVain : State → ℕ → ℕ → Type 0
AreWakesInVain s c b = (x : Block) → slice_get s.blocks b ≡ Some x →
    Each x.control.states (λ d (state : DispState). waits_on_channel state ≡ true → IsInVain s c (action.Wake (record { 0 = b }) (record { 0 = d })))

-- core c tried its step, its order, the intake of each line, and the wake of each dispatcher in its share that waits on a channel
pub record IsTriedOut (s : State) (c : ℕ) : Type 0 where
  pub step : IsInVain s c action.Step
  pub order : IsInVain s c action.Order
  pub intakes : (l : ℕ) → l < length s.lines → IsInVain s c (action.Intake (record { 0 = l }))
  pub wakes : (k : Core) → slice_get s.cores c ≡ Some k → Each k.share (λ i (m : Member). AreWakesInVain s c m.block)
