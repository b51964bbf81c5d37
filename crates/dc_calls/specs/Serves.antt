-- What a kernel call came to, as the program has it.
use Rattle.std.specs.Prelude.{◌≡◌, ℕ, false, Some, slice_get, ⊤}
use Rattle.dc_base.specs.declared.dispatchers.DispState.TheVariants as disp
use Rattle.dc_base.specs.Words.{lists}
use Rattle.dc_base.specs.Parts.{Parts}
use Rattle.dc_base.specs.Kernel.{Call}
use Rattle.dc_base.specs.ControlBlocks.{ControlBlock}
use Rattle.dc_base.specs.Serving.{Outside, Served, faulted, held_up, served, serve}
use Rattle.dc_block_sound.specs.SoundControls.{IsSoundBesideReady}
use Rattle.dc_calls.specs.declared.answers.Answer.{Answer}
use Rattle.dc_calls.specs.declared.answers.Answer.TheVariants as answer

-- what the call comes to, where it leaves these parts and this object outside
abbrev pub answered : Answer → Parts → Outside → Served
answered (answer.Fault x) p out = faulted x
answered (answer.Hold w) p out = held_up w
answered (answer.Made w) p out = served w p out

-- it holds where the call is not made
abbrev pub IfNotMade : Answer → Type 0 → Type 0
IfNotMade (answer.Made w) P = ⊤
IfNotMade a P = P

-- the call of block n on core c is served so, from the control block and the object outside before it to those after it
pub record Serves (c n : ℕ) (call : Call) (before after : ControlBlock) (out out' : Outside) (a : Answer) : Type 0 where
  pub answer : answered a after.parts out' ≡ serve c n call out
  pub rest : after ≡ record before { parts = after.parts }
  pub kept : IfNotMade a ((after ≡ before) × (out' ≡ out))

-- dispatcher d runs: it is ready and out of the ready list
pub record IsRunning (d : ℕ) (x : ControlBlock) : Type 0 where
  pub rest : IsSoundBesideReady x
  pub state : slice_get x.states d ≡ Some disp.Ready
  pub out : lists x.ready d ≡ false
