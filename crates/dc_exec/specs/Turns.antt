-- What happens at the place of a dispatcher.
use Rattle.std.specs.Prelude.{◌≡◌, ℕ, ◌<◌, ◌≤◌, List, Some, length, IsTrue}
use Rattle.dc_base.specs.declared.instructions.Instr.{Instr}
use Rattle.dc_base.specs.declared.calls.Op.{Op}
use Rattle.dc_base.specs.Effects.{Move, goes, halts, traps, calls}
use Rattle.dc_isa.specs.declared.dispatchers.Dispatcher.{Dispatcher}
use Rattle.dc_exec.specs.declared.turns.Turn.{Turn}
use Rattle.dc_exec.specs.declared.turns.Turn.TheVariants as turn
use Rattle.dc_exec.specs.Calls.{call_name, is_proper_call}
use Rattle.dc_exec.specs.Steps.{context_of, with_context}

-- the dispatcher and the memory after an instruction that goes on
pub record GoesOn (d d' : Dispatcher) (words' : List ℕ) (m : Move) : Type 0 where
  pub move : m ≡ goes (context_of d') words'
  pub same : d' ≡ with_context d (context_of d')
  pub place : d'.place ≤ 65535

-- a call stands at the place
pub record Stands (d : Dispatcher) (code : List ℕ) (instr : Instr) (m : Move) : Type 0 where
  pub name : Op
  pub named : call_name instr ≡ Some name
  pub move : m ≡ calls name instr
  pub proper : IsTrue (is_proper_call instr)
  pub place : d.place < length code

-- the answer, the dispatcher and the memory are those of the move
abbrev pub Turns : Turn → Dispatcher → Dispatcher → List ℕ → List ℕ → List ℕ → Move → Type 0
Turns turn.Next d d' words words' code m = GoesOn d d' words' m
Turns turn.Halted d d' words words' code m = (m ≡ halts) × (d' ≡ d) × (words' ≡ words)
Turns (turn.Trap x) d d' words words' code m = (m ≡ traps x) × (d' ≡ d) × (words' ≡ words)
Turns (turn.Call i) d d' words words' code m = Stands d code i m × (d' ≡ d) × (words' ≡ words)
